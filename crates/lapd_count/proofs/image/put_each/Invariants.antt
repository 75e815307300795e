-- The invariant of the loop of `put_each`.
use Rattle.std.specs.Prelude.{flat_map, take}
use Rattle.lapd_image.specs.Numbers.{number}
use Rattle.lapd_image.specs.Puts.{Puts}
use Rattle.lapd_count.proofs.image.put_each.Given as goal

-- the numbers so far are put
abbrev pub invariant-loop-value : goal.invariant-loop-value
invariant-loop-value l = Puts (flat_map (number 8) (take l.value-index l.values)) l.at l.fn.out l.place l.out
