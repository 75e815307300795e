-- Which handle a call leaves behind, whatever its status: one that may be given to the next call.
use Rattle.std.specs.Prelude.{◌≡◌, ◌≤◌, ℕ, is_some, Option, IfSome}
use Rattle.lapd_clock.specs.Timers.{Timers}
use Rattle.model_card.specs.declared.kinds.CardKind.{CardKind}
use Rattle.lapd_c.specs.declared.card.CardHandle.{CardHandle}
use Rattle.lapd_c.specs.declared.clock.ClockHandle.{ClockHandle}
use Rattle.lapd_c.specs.declared.plain.config.PlainConfig.{PlainConfig}
use Rattle.lapd_c.specs.declared.plain.reports.PlainReport.{PlainReport}
use Rattle.lapd_c.specs.declared.plain.timers.PlainLengths.{PlainLengths}
use Rattle.lapd_c.specs.CalledBy.{Asked, Called, IsCallOf}
use Rattle.lapd_c.specs.Calls.{IsCardStart, IsTimedStart}
use Rattle.lapd_c.specs.Cards.{card_of, IsHandle}
use Rattle.lapd_c.specs.Clocks as clocks
use Rattle.lapd_c.specs.Clocks.{IsClockCall, IsClockStart, clock_of}
use Rattle.lapd_c.specs.FallsDue.{IsMomentCall, IsTimersCall}
use Rattle.lapd_c.specs.Starts.{IsFreed}
use Rattle.lapd_c.specs.Wanted.{Wanted}

-- It is started exactly if a card is there. So is one of a clock, which has 64 lines at most.
abbrev pub IsLeft : CardHandle → Type 0
IsLeft h = h.started ≡ is_some (card_of h)

pub record ClockIsLeft (h : ClockHandle) : Type 0 where
  pub started : h.started ≡ is_some (clock_of h)
  pub lines : IfSome (clock_of h) (λ c. c.lines ≤ 64)

pub record HandlesAreLeft : Type 0 where
  -- What is left so may be given to a call.
  pub given : (h : CardHandle) → IsLeft h → IsHandle h
  pub clock_given : (h : ClockHandle) → ClockIsLeft h → clocks.IsHandle h
  -- A call of a line leaves it so, and a block of octets; a call with a moment, and one that sets lengths.
  pub call : (asked : Asked) (old new : CardHandle) (result : ℕ) (before r : PlainReport) → Called asked old new result before r → IsLeft new
  pub block : (cards : Wanted) (line result : ℕ) (names : Option ℕ) (old new : CardHandle) (before r : PlainReport) → IsCallOf cards line names old new result before r → IsLeft new
  pub moment : (old new : CardHandle) (result : ℕ) (before r : PlainReport) → IsMomentCall old new result before r → IsLeft new
  pub lengths : (old new : CardHandle) (result : ℕ) → IsTimersCall old new result → IsLeft new
  -- So does a start, and an end; and what is called of a clock.
  pub start : (kind : CardKind) (config : PlainConfig) (old new : CardHandle) (result : ℕ) → IsCardStart kind config old new result → IsLeft new
  pub timed_start : (kind : CardKind) (config : PlainConfig) (lengths : PlainLengths) (old new : CardHandle) (result : ℕ) → IsTimedStart kind config lengths old new result → IsLeft new
  pub card_end : (old new : CardHandle) (result : ℕ) → IsFreed IsHandle card_of 11 old new result → IsLeft new
  pub clock : (tells : Timers → ℕ) (leaves : Timers → Timers) (old new : ClockHandle) (result : ℕ) → IsClockCall tells leaves old new result → ClockIsLeft new
  pub clock_start : (config : PlainConfig) (old new : ClockHandle) (result : ℕ) → IsClockStart config old new result → ClockIsLeft new
  pub clock_end : (old new : ClockHandle) (result : ℕ) → IsFreed clocks.IsHandle clock_of 12 old new result → ClockIsLeft new
