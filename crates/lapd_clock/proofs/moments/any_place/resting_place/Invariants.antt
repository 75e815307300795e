-- The invariant of the loop of `resting_place`.
use Rattle.std.proofs.Common.{ℕ, ◌<◌, get_or}
use Rattle.lapd_clock.proofs.Vocabulary.{never}
use Rattle.lapd_clock.specs.declared.moments.place.Place.{Place}
use Rattle.lapd_clock.proofs.moments.any_place.resting_place.Given as goal

-- a timer runs at each so far
abbrev pub invariant-loop-place : goal.invariant-loop-place
invariant-loop-place l = (k : ℕ) (d : Place) → k < l.place → (get_or l.places k d).moment < never
