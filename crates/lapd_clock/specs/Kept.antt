-- A clock whose timers run at places: each line has as many as timers may run on it.
use Rattle.std.specs.Prelude.{◌≡◌, ℕ, zero, suc, ◌*◌, ◌/◌, ◌<◌, if◌then◌else◌, List, [], ◌∷◌, ◌++◌, length, map, filter, take, drop}
use Rattle.lapd_clock.specs.Image.{timer}
use Rattle.lapd_clock.specs.OwnPlaces.{at, is_running, timers_in}
use Rattle.lapd_clock.specs.Places.{IsOfCard}
use Rattle.lapd_clock.specs.Sound.{IsSound}
use Rattle.lapd_clock.specs.Timer.{Lengths}
use Rattle.lapd_clock.specs.Timers.{Expiry, Timers}
use Rattle.lapd_clock.specs.declared.held.Held.{Held}

abbrev pub clock_of : Lengths → ℕ → ℕ → List Expiry → Timers
clock_of lengths lines places es = record { lines = lines; places = places; lengths = lengths; running = timers_in es }

pub record IsKept (lengths : Lengths) (lines places : ℕ) (es : List Expiry) : Type 0 where
  pub count : length es ≡ lines * places
  pub of_line : (i : ℕ) → i < length es → (at i es).line ≡ i / places
  pub sound : IsSound (clock_of lengths lines places es)
  pub of_card : IsOfCard places lines

-- The timers that run at some places, and at those of a line.
abbrev pub held_of : Expiry → Held
held_of e = record { moment = e.moment; timer = e.timer }

abbrev pub held_in : List Expiry → List Held
held_in es = map held_of (filter is_running es)

abbrev pub places_from : ℕ → ℕ → List Expiry → List Expiry
places_from begin count es = take count (drop begin es)

abbrev pub held_on : ℕ → ℕ → List Expiry → List Held
held_on places line es = held_in (places_from (line * places) places es)

-- The timers of so many lines, line by line.
abbrev pub held_by_lines : ℕ → ℕ → List Expiry → List (List Held)
held_by_lines places zero es = []
held_by_lines places (suc n) es = held_by_lines places n es ++ held_on places n es ∷ []

-- What a place has in an image.
abbrev pub timer_at : Expiry → List ℕ
timer_at e = if is_running e then timer (held_of e) else []
