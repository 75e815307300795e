-- The invariant of the loop of `Changes::save`.
use Rattle.std.proofs.Common.{take}
use Rattle.lapd_image.specs.Puts.{Puts}
use Rattle.model_image.specs.Images.{changes}
use Rattle.lapd_timed.proofs.changes.Changes.save.Given as goal

abbrev pub invariant-loop-moment : goal.invariant-loop-moment
invariant-loop-moment l = Puts (changes (take l.moment-index l.moment-items)) l.at l.initial.out l.end l.out
