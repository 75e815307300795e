-- Lengths, the moment, moments of timers, and of changes.
use Rattle.lapd_image.proofs.Puts.{puts-same, puts-then}
use Rattle.lapd_timed.proofs.MaySave.{may-stand}
use Rattle.lapd_timed.proofs.Spelled.{timers-spelled}
use Rattle.lapd_timed.proofs.card_timers.CardTimers.save.Goals as goal

pub returns-clause-within : goal.returns-clause-within
returns-clause-within c = c.save.ensures.within

pub returns-clause-puts : goal.returns-clause-puts
returns-clause-puts c = λ m k changed saved.
    puts-same (timers-spelled c.args.self.now m k changed saved)
    (puts-then c.save_lengths-at.ensures (puts-then c.put_number-at.ensures (puts-then c.save_moments-at.ensures c.save.ensures)))

pub returns-clause-saved : goal.returns-clause-saved
returns-clause-saved c = λ m k changed saved.
    may-stand c.args.self.now m k changed saved c.args.self.now.in_time c.args.self.now.past
