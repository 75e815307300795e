-- The invariant of the loop of `save_moments`.
use Rattle.lapd_image.specs.Puts.{Puts}
use Rattle.lapd_timed.specs.MomentsImage.{all_moments}
use Rattle.lapd_timed.proofs.card_timers.CardTimers.save_moments.Given as goal

abbrev pub invariant-loop-line : goal.invariant-loop-line
invariant-loop-line l = Puts (all_moments l.line l.self.terminals l.self.moments) l.at l.initial.out l.end l.out
