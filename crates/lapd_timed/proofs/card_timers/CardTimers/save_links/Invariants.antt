-- The invariant of the loop of `save_links`.
use Rattle.lapd_image.specs.Puts.{Puts}
use Rattle.lapd_timed.specs.MomentsImage.{links_moments}
use Rattle.lapd_timed.proofs.card_timers.CardTimers.save_links.Given as goal

abbrev pub invariant-loop-number : goal.invariant-loop-number
invariant-loop-number l = Puts (links_moments l.self.terminals l.line l.self.moments l.number) l.at l.initial.out l.end l.out
