-- The invariant of the loop of `first_place`.
use Rattle.std.specs.List.{IsFirstBest}
use Rattle.lapd_clock.specs.OwnPlaces.{place_before}
use Rattle.lapd_clock.proofs.moments.place.first_place.Given as goal

-- the first of those so far
abbrev pub invariant-loop-place : goal.invariant-loop-place
invariant-loop-place l = IsFirstBest place_before l.places l.place l.first
