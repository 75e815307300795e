-- The orders of a report, carried out on a clock.
use Rattle.std.specs.Prelude.{ℕ, nat_lt, Bool, true, not, ◌&&◌, List, [], ◌∷◌, Option, Some, None, Result, Ok, Err, if◌then◌else◌}
use Rattle.std.specs.Option.{option_map_or, option_or, unwrap_or}
use Rattle.lapd_frame.specs.declared.timers.Order.{Order}
use Rattle.lapd_clock.specs.Timers.{Timers, finds_place, with_order}
use Rattle.lapd_c.specs.declared.plain.reports.PlainReport.{PlainReport}
use Rattle.lapd_c.specs.declared.plain.timers.PlainOrder.{PlainOrder}
use Rattle.lapd_c.specs.Reports.{orders_of}
use Rattle.lapd_c.specs.Statuses.{ok, wrong_line, wrong_time, wrong_order, no_place}
use Rattle.lapd_c.specs.Timers.{order_in}
use Rattle.lapd_c.specs.Clocks.{latest}

-- What is wrong with the first order that is none, if one is.
abbrev pub fault_before : Option ℕ → Result Order ℕ → Option ℕ
fault_before others (Err wrong) = Some wrong
fault_before others (Ok order) = others

abbrev pub first_fault_in : List PlainOrder → Option ℕ
first_fault_in [] = None
first_fault_in (p ∷ ps) = fault_before (first_fault_in ps) (order_in p)

-- Whether an order finds its place, and the clock after it.
abbrev pub is_placed : Timers → ℕ → Result Order ℕ → Bool
is_placed c line (Err wrong) = true
is_placed c line (Ok order) = finds_place c line order

abbrev pub after_order : Timers → ℕ → Result Order ℕ → ℕ → Timers
after_order c line (Err wrong) now = c
after_order c line (Ok order) now = with_order c line order now

-- The same of one order after the other.
abbrev pub all_placed : Timers → ℕ → List PlainOrder → ℕ → Bool
all_placed c line [] now = true
all_placed c line (p ∷ ps) now = is_placed c line (order_in p) && all_placed (after_order c line (order_in p) now) line ps now

abbrev pub after_orders : Timers → ℕ → List PlainOrder → ℕ → Timers
after_orders c line [] now = c
after_orders c line (p ∷ ps) now = after_orders (after_order c line (order_in p) now) line ps now

-- What is wrong with orders at a moment, if anything is: with the first that is none, else with the moment.
abbrev pub wrong_among : List PlainOrder → ℕ → Option ℕ
wrong_among orders now = option_or (first_fault_in orders) (if nat_lt latest now then Some wrong_time else None)

-- What is answered to orders for a line that the clock has. Where anything is wrong, no order is carried out.
abbrev pub orders_status : Timers → ℕ → List PlainOrder → ℕ → ℕ
orders_status c line orders now =
    unwrap_or (wrong_among orders now) (if all_placed c line orders now then ok else no_place)

abbrev pub after_all : Timers → ℕ → List PlainOrder → ℕ → Timers
after_all c line orders now = option_map_or (λ wrong. c) (wrong_among orders now) (after_orders c line orders now)

-- To a report for a line.
abbrev pub report_status : Timers → ℕ → PlainReport → ℕ → ℕ
report_status c line r now =
    if not (nat_lt line c.lines) then wrong_line
    else if nat_lt 4 r.order_count then wrong_order
    else orders_status c line (orders_of r) now

abbrev pub after_report : Timers → ℕ → PlainReport → ℕ → Timers
after_report c line r now =
    if nat_lt line c.lines && not (nat_lt 4 r.order_count) then after_all c line (orders_of r) now else c
