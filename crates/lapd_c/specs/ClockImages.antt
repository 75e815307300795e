-- A clock in C that is saved into an image, and one that is restored from it.
use Rattle.std.specs.Prelude.{◌≡◌, ◌≢◌, ◌≤◌, ◌⊎◌, ℕ, List, length, None, Some, IfSome}
use Rattle.lapd_clock.specs.Image.{image, most_octets, AreItsTimers, IsNoImage, IsRead, IsSaved}
use Rattle.lapd_clock.specs.Timers.{Timers}
use Rattle.lapd_c.specs.declared.clock.ClockHandle.{ClockHandle}
use Rattle.lapd_c.specs.Slots.{HeldClock}
use Rattle.lapd_c.specs.Clocks.{clock_of, IsClockCall, IsHandle}
use Rattle.lapd_c.specs.Saves.{save_status, IsFault, StandsInFront}
use Rattle.lapd_c.specs.Statuses as status

-- Its image stands in front: the timers of a line there in whichever order.
abbrev pub IsSavedAs : Timers → List ℕ → List ℕ × ℕ → Type 0
IsSavedAs c room after = (lines : List (List _)) × AreItsTimers c lines × StandsInFront (image c lines) room after

-- A save changes nothing of the clock. If there is room for all that an image of it may have, the image is written.
pub record IsClockSave (old new : ClockHandle) (result : ℕ) (before after : List ℕ × ℕ) : Type 0 where
  pub call : IsClockCall (λ c. save_status (length before.0) (most_octets c)) (λ c. c) old new result
  pub unwritten : result ≢ status.ok → after ≡ before
  pub saved : IfSome (clock_of old) (λ c. IsSaved c → most_octets c ≤ length before.0 → IsSavedAs c before.0 after)

abbrev pub HandleReads : List ℕ → HeldClock → Type 0
HandleReads image None = ⊥
HandleReads image (Some c) = IsRead image c

-- A restore is a start: of the clock of an image, or there is none but the one that was there.
pub record IsClockRestore (image : List ℕ) (old new : ClockHandle) (result : ℕ) : Type 0 where
  pub handle : IsHandle new
  pub second : IfSome (clock_of old) (λ _. result ≡ status.second_start)
  pub otherwise : clock_of old ≡ None → (result ≡ status.ok) ⊎ IsFault result
  pub fault : result ≢ status.ok → new ≡ old
  pub restored : result ≡ status.ok → HandleReads image (clock_of new)
  pub bad_image : result ≡ status.bad_image → IsNoImage image
