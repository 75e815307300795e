-- The loop of `earliest`.
use Rattle.std.proofs.Common.{◌≡◌, ◌≤◌, get_or}
use Rattle.lapd_clock.specs.Bounds.{IsEarliest}
use Rattle.lapd_clock.specs.declared.moments.place.Place.{Place}
use Rattle.lapd_clock.proofs.moments.lead.earliest.Given as goal

-- the earliest so far
abbrev pub invariant-loop-place : goal.invariant-loop-place
invariant-loop-place l = record {
  so_far : IsEarliest l.place l.first l.others l.places;
  least : (d : Place) → (get_or l.places l.first d).moment ≡ l.least;
  ordered : l.least ≤ l.others;
}
