-- The invariant of the loop of `put_lines`.
use Rattle.std.specs.Prelude.{flat_map}
use Rattle.lapd_image.specs.Numbers.{list_of}
use Rattle.lapd_image.specs.Puts.{Puts}
use Rattle.lapd_clock.specs.Image.{timer}
use Rattle.lapd_clock.specs.Kept.{held_by_lines}
use Rattle.lapd_clock.proofs.clock.saved.put_lines.Given as goal

abbrev pub invariant-loop-line : goal.invariant-loop-line
invariant-loop-line l = Puts (flat_map (list_of timer) (held_by_lines l.places l.line l.moments)) l.initial.end l.initial.out l.end l.out
