-- What holds of every clock.
use Rattle.std.specs.Prelude.{◌≡◌, ℕ, ◌<◌, ◌≤◌, false, List, [], ◌∷◌, Contains, All}
use Rattle.std.specs.List.{AllByRecursion}
use Rattle.lapd_clock.specs.InOrder.{IsInOrder}
use Rattle.lapd_clock.specs.Timer.{Timer, AreInRange}
use Rattle.lapd_clock.specs.Timers.{Expiry, Timers, is_before, is_of, count_on}

-- no two members are of one line and timer
abbrev pub IsOneEach : List Expiry → Type 0
IsOneEach [] = Unit {0}
IsOneEach (e ∷ es) = AllByRecursion (λ other. is_of e.line e.timer other ≡ false) es × IsOneEach es

pub record IsSound (c : Timers) : Type 0 where
  -- the list is in the order in which its members fall due
  pub in_order : IsInOrder is_before c.running
  -- each timer of each line has one moment
  pub one_each : IsOneEach c.running
  -- each running timer is of a line that the clock has,
  pub on_lines : All (λ e. e.line < c.lines) c.running
  -- and no line holds more timers than it has places
  pub in_places : (line : ℕ) → count_on line c.running ≤ c.places
  -- Timers that are started run as long as they may.
  pub lengths : AreInRange c.lengths

-- This timer of this line is the least that is held, and it is due.
pub record IsLeastDue (c : Timers) (now line : ℕ) (timer : Timer) : Type 0 where
  pub moment : ℕ
  pub held : Contains c.running (record { moment = moment; line = line; timer = timer })
  pub due : moment ≤ now
  pub least : All (λ other. is_before other (record { moment = moment; line = line; timer = timer }) ≡ false) c.running
