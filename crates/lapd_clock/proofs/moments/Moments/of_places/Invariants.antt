-- The invariants of the loops of `of_places`.
use Rattle.std.proofs.Common.{◌≡◌, ◌+◌, ◌*◌, length}
use Rattle.lapd_clock.specs.OwnPlaces.{AreIdleSoFar, AreOfLines}
use Rattle.lapd_clock.proofs.moments.Moments.of_places.Given as goal

abbrev pub invariant-loop : goal.invariant-loop
invariant-loop l = record { so_far : AreIdleSoFar l.places.items; of_lines : AreOfLines l.each l.places.items; count : length l.places.items ≡ l.line * l.each + l.counter }

abbrev pub invariant-loop-line : goal.invariant-loop-line
invariant-loop-line l = record { so_far : AreIdleSoFar l.places.items; of_lines : AreOfLines l.each l.places.items; count : length l.places.items ≡ l.line * l.each }
