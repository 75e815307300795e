-- The loop of `first_places`.
use Rattle.std.proofs.Common.{◌≡◌, length}
use Rattle.lapd_clock.specs.OwnPlaces.{AreFirstPlaces}
use Rattle.lapd_clock.proofs.moments.lead.first_places.Given as goal

abbrev pub invariant-loop-line : goal.invariant-loop-line
invariant-loop-line l = record { count : length l.leads.items ≡ l.line; so_far : AreFirstPlaces l.each l.leads.items }
