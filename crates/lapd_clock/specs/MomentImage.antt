-- The moment of a timer in an image.
use Rattle.std.specs.Prelude.{◌≡◌, ℕ, ◌<◌, List, [], if◌then◌else◌}
use Rattle.lapd_clock.specs.Firsts.{never}
use Rattle.lapd_clock.specs.OwnPlaces.{at, is_running, with_timer}
use Rattle.lapd_clock.specs.Timer.{Timer}
use Rattle.lapd_clock.specs.Timers.{Expiry}
use Rattle.lapd_image.specs.Numbers.{number}
use Rattle.lapd_image.specs.Reads.{IsReadAs}

-- In eight octets, if the timer runs; otherwise nothing.
abbrev pub moment_of : Expiry → List ℕ
moment_of e = if is_running e then number 8 e.moment else []

abbrev pub moment_at : ℕ → List Expiry → List ℕ
moment_at place es = moment_of (at place es)

-- One at which a timer may fall due.
abbrev pub IsMoment : ℕ → Type 0
IsMoment moment = moment < never

-- A moment was read, and the timer of a place was started with it.
pub record IsStartedBy (place : ℕ) (timer : Timer) (front rest : List ℕ) (old new : List Expiry) : Type 0 where
  pub moment : ℕ
  pub read : IsReadAs (number 8) IsMoment moment front rest
  pub is : new ≡ with_timer place timer moment old
