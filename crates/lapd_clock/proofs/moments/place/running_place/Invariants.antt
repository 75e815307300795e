-- The invariant of the loop of `running_place`.
use Rattle.std.proofs.Common.{◌≡◌, ℕ, ◌<◌, false, get_or}
use Rattle.lapd_clock.specs.OwnPlaces.{place_runs}
use Rattle.lapd_clock.specs.declared.moments.place.Place.{Place}
use Rattle.lapd_clock.proofs.moments.place.running_place.Given as goal

-- the timer runs at none so far
abbrev pub invariant-loop-place : goal.invariant-loop-place
invariant-loop-place l = (k : ℕ) (d : Place) → k < l.place → place_runs l.line l.timer (get_or l.places k d) ≡ false
