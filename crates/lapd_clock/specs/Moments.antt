-- A clock as a map from the timers of its lines to moments, and what an order does to that map.
use Rattle.std.specs.Prelude.{◌≡◌, ℕ, false, ◌&&◌, ◌==◌, if◌then◌else◌, List, [], ◌∷◌, Option, None, Some}
use Rattle.lapd_clock.specs.Timer.{Timer, is_same}
use Rattle.lapd_clock.specs.Timers.{Expiry, Timers, is_of}

-- when a timer of a line falls due, if it runs
abbrev pub moment_of : ℕ → Timer → List Expiry → Option ℕ
moment_of line timer [] = None
moment_of line timer (e ∷ es) = if is_of line timer e then Some e.moment else moment_of line timer es

-- This timer of this line now has this moment, or none; every other timer has the moment that it had, or none as
-- before.
pub record MovesOne (line : ℕ) (timer : Timer) (moment : Option ℕ) (old new : Timers) : Type 0 where
  pub own : moment_of line timer new.running ≡ moment
  pub others : (l : ℕ) (t : Timer) → (line == l && is_same timer t) ≡ false → moment_of l t new.running ≡ moment_of l t old.running
