-- What orders do to a clock, in words of their own.
use Rattle.std.specs.Prelude.{◌≡◌, ◌≤◌, ◌<◌, ◌^◌, ℕ, Bool, true, ◌&&◌, List, [], ◌∷◌, ◌++◌, take, map, fold, Some, Result, Ok, Err, if◌then◌else◌}
use Rattle.lapd_frame.specs.declared.timers.Order.{Order}
use Rattle.lapd_frame.specs.declared.timers.Order.TheVariants.{Start, Stop}
use Rattle.lapd_frame.specs.declared.timers.Timer.{Timer}
use Rattle.lapd_frame.specs.declared.timers.Timer.TheVariants.{T200, T203}
use Rattle.lapd_clock.specs.Timers.{Timers, finds_place, idle, with_order}
use Rattle.lapd_c.specs.Clocks.{IsClockCall, IsClockStart, after_apply, apply_status, clock_of}
use Rattle.lapd_c.specs.Orders.{after_report, report_status}
use Rattle.lapd_c.specs.Timers.{order_in, plain_order}
use Rattle.lapd_c.specs.declared.clock.ClockHandle.{ClockHandle}
use Rattle.lapd_c.specs.declared.plain.config.PlainConfig.{PlainConfig}
use Rattle.lapd_c.specs.declared.plain.reports.PlainReport.{PlainReport}
use Rattle.lapd_c.specs.declared.plain.timers.PlainOrder.{PlainOrder}

-- A timer of a line, or of a link of a terminal.
abbrev pub IsOfTerminal : Timer → Type 0
IsOfTerminal (T200 service tei) = tei ≤ 126
IsOfTerminal (T203 service tei) = tei ≤ 126
IsOfTerminal other = Unit {0}

abbrev pub IsNamed : Order → Type 0
IsNamed (Start timer) = IsOfTerminal timer
IsNamed (Stop timer) = IsOfTerminal timer

-- Orders one after the other, at one line and moment.
abbrev pub next_order : ℕ → ℕ → Timers → Order → Timers
next_order line now c order = with_order c line order now

-- The orders that a report names.
abbrev pub Names : PlainReport → List Order → Type 0
Names r orders = map order_in (take r.order_count r.orders) ≡ map Ok orders

-- Each finds its place in turn.
abbrev pub find_places : Timers → ℕ → ℕ → List Order → Bool
find_places c line now [] = true
find_places c line now (order ∷ orders) = finds_place c line order && find_places (with_order c line order now) line now orders

-- One of a report's orders names none; this is the first such.
pub record NamesNone (r : PlainReport) (wrong : ℕ) : Type 0 where
  pub before : List PlainOrder
  pub orders : List Order
  pub none : PlainOrder
  pub rest : List PlainOrder
  pub all : take r.order_count r.orders ≡ before ++ none ∷ rest
  pub read : map order_in before ≡ map Ok orders
  pub is_none : order_in none ≡ Err wrong

-- An order, and those of a report, are not carried out: the status says why, and the clock is as it was.
abbrev pub IsLeft : Timers → ℕ → Result Order ℕ → ℕ → ℕ → Type 0
IsLeft c line order now status = (apply_status c line order now ≡ status) × (after_apply c line order now ≡ c)

abbrev pub AreLeft : Timers → ℕ → PlainReport → ℕ → ℕ → Type 0
AreLeft c line r now status = (report_status c line r now ≡ status) × (after_report c line r now ≡ c)

-- Nothing is carried out if there is no such line, if an order is none, or if the moment comes after the latest. And nothing of a
-- report that has more than four orders.
pub record OneIsRefused (c : Timers) (line : ℕ) (order : Result Order ℕ) (now : ℕ) : Type 0 where
  pub no_line : c.lines ≤ line → IsLeft c line order now 14
  pub wrong : (status : ℕ) → line < c.lines → order ≡ Err status → IsLeft c line order now status
  pub late : (named : Order) → line < c.lines → order ≡ Ok named → 2 ^ 63 < now → IsLeft c line order now 21

pub record AllAreRefused (c : Timers) (line : ℕ) (r : PlainReport) (now : ℕ) : Type 0 where
  pub no_line : c.lines ≤ line → AreLeft c line r now 14
  pub too_many : line < c.lines → 4 < r.order_count → AreLeft c line r now 20
  pub wrong : (status : ℕ) → line < c.lines → r.order_count ≤ 4 → NamesNone r status → AreLeft c line r now status
  pub late : (orders : List Order) → line < c.lines → r.order_count ≤ 4 → Names r orders → 2 ^ 63 < now → AreLeft c line r now 21

-- For a line that the clock has, up to the latest moment, an order is carried out, and those of a report are, in their order. The
-- answer is whether each finds its place. What a card tells as an order is read as that order.
pub record OrdersAreCarriedOut : Type 0 where
  pub one : (c : Timers) (line now : ℕ) (order : Order) → line < c.lines → now ≤ 2 ^ 63 → after_apply c line (Ok order) now ≡ with_order c line order now
  pub answered : (c : Timers) (line now : ℕ) (order : Order) → line < c.lines → now ≤ 2 ^ 63 → apply_status c line (Ok order) now ≡ (if finds_place c line order then 0 else 24)
  pub all : (c : Timers) (line now : ℕ) (r : PlainReport) (orders : List Order) → Names r orders → r.order_count ≤ 4 → line < c.lines → now ≤ 2 ^ 63
      → after_report c line r now ≡ fold (next_order line now) c orders
  pub read : (order : Order) → IsNamed order → order_in (plain_order order) ≡ Ok order
  pub all_answered : (c : Timers) (line now : ℕ) (r : PlainReport) (orders : List Order) → Names r orders → r.order_count ≤ 4 → line < c.lines → now ≤ 2 ^ 63
      → report_status c line r now ≡ (if find_places c line now orders then 0 else 24)
  pub refused : (c : Timers) (line now : ℕ) (order : Result Order ℕ) → OneIsRefused c line order now
  pub all_refused : (c : Timers) (line now : ℕ) (r : PlainReport) → AllAreRefused c line r now
  -- A call of a clock answers and leaves what its words say of the clock that is there; and a start begins one on which no timer runs.
  pub call : (tells : Timers → ℕ) (leaves : Timers → Timers) (old new : ClockHandle) (result : ℕ) (c : Timers) → IsClockCall tells leaves old new result → clock_of old ≡ Some c
      → (result ≡ tells c) × (clock_of new ≡ Some (leaves c))
  pub begun : (config : PlainConfig) (old new : ClockHandle) → IsClockStart config old new 0 → clock_of new ≡ Some (idle config.lines config.terminals)
