-- A clock as C holds it.
use Rattle.std.specs.Prelude.{◌≡◌, ◌≤◌, ◌^◌, ℕ, nat_lt, is_some, Option, None, Some, IfSome, option_map, Result, Ok, Err, if◌then◌else◌}
use Rattle.lapd_frame.specs.declared.timers.Order.{Order}
use Rattle.lapd_frame.specs.declared.timers.Timer.{Timer}
use Rattle.lapd_clock.specs.Timer.{Lengths, first_out_of_range}
use Rattle.lapd_clock.specs.Timers.{Timers, finds_place, idle, with_lengths, with_order}
use Rattle.lapd_c.specs.Starts.{IsStart}
use Rattle.lapd_c.specs.Statuses.{ok, no_clock, no_timer, wrong_line, wrong_time, no_place}
use Rattle.lapd_c.specs.declared.plain.config.PlainConfig.{PlainConfig}
use Rattle.lapd_c.specs.declared.plain.timers.PlainDue.{PlainDue}
use Rattle.lapd_c.specs.Reserved.{unused}
use Rattle.lapd_c.specs.Timers.{plain_timer}
pub use Rattle.lapd_c.specs.Timers.{lengths_given}
use Rattle.lapd_c.specs.declared.clock.ClockHandle.{ClockHandle}
use Rattle.lapd_c.specs.Slots.{HeldClock}

-- The clock that is there, or none.
abbrev pub clock_of : ClockHandle → HeldClock
clock_of h = h.slot.clock

-- It says of itself whether one is there; and that has the lines of a card.
pub record IsHandle (h : ClockHandle) : Type 0 where
  pub said : h.started ≡ is_some (clock_of h)
  pub lines : IfSome (clock_of h) (λ c. c.lines ≤ 64)

-- What a start of a clock comes to: no timer runs on it.
pub record IsClockStart (config : PlainConfig) (old new : ClockHandle) (result : ℕ) : Type 0 where
  pub handle : IsHandle new
  pub start : IsStart clock_of config old new result
  pub begun : result ≡ ok → clock_of new ≡ Some (idle config.lines config.terminals)

-- What a call of a clock comes to: the status that the clock has for it, and the clock after it. If there is none, this is told.
pub record IsClockCall (tells : Timers → ℕ) (leaves : Timers → Timers) (old new : ClockHandle) (result : ℕ) : Type 0 where
  pub handle : IsHandle new
  pub none : clock_of old ≡ None → (result ≡ no_clock) × (new ≡ old)
  pub told : IfSome (clock_of old) (λ c. result ≡ tells c)
  pub after : clock_of new ≡ option_map leaves (clock_of old)

-- A timer that fell due, with its line.
abbrev pub plain_due : ℕ × Timer → PlainDue
plain_due due = record { line = due.0; timer = plain_timer due.1; reserved = unused 9 }

-- How long timers are to run.
abbrev pub lengths_status : Lengths → Timers → ℕ
lengths_status lengths c = if is_some (first_out_of_range lengths) then wrong_time else ok

abbrev pub after_lengths : Lengths → Timers → Timers
after_lengths lengths c = if is_some (first_out_of_range lengths) then c else with_lengths lengths c

-- Of what is due, or falls due first, there may be none.
abbrev pub timer_status : {A : Type 0} → Option A → ℕ
timer_status None = no_timer
timer_status (Some first) = ok

-- An order, or what is wrong with it, for a timer of a line at a moment: what is answered, and the clock after it.
abbrev pub latest : ℕ
latest = 2 ^ 63

abbrev pub order_status : Timers → ℕ → Result Order ℕ → ℕ → ℕ
order_status c line (Err wrong) now = wrong
order_status c line (Ok order) now =
    if nat_lt latest now then wrong_time else if finds_place c line order then ok else no_place

abbrev pub apply_status : Timers → ℕ → Result Order ℕ → ℕ → ℕ
apply_status c line order now = if nat_lt line c.lines then order_status c line order now else wrong_line

abbrev pub after_order : Timers → ℕ → Result Order ℕ → ℕ → Timers
after_order c line (Err wrong) now = c
after_order c line (Ok order) now = if nat_lt latest now then c else with_order c line order now

abbrev pub after_apply : Timers → ℕ → Result Order ℕ → ℕ → Timers
after_apply c line order now = if nat_lt line c.lines then after_order c line order now else c
