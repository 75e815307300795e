-- The invariant of the loop of `save_waits`.
use Rattle.std.proofs.Common.{take}
use Rattle.std.specs.Prelude.{flat_map}
use Rattle.lapd_image.specs.Numbers.{number}
use Rattle.lapd_image.specs.Puts.{Puts}
use Rattle.lapd_timed.proofs.saved.save_waits.Given as goal

abbrev pub invariant-loop-line : goal.invariant-loop-line
invariant-loop-line l = Puts (flat_map (number 2) (take l.line l.waits)) l.at l.initial.out l.end l.out
