-- Timers and orders as numbers.
use Rattle.std.specs.Prelude.{ℕ, nat_lt, ◌==◌, Option, option_map, Result, Ok, Err, if◌then◌else◌}
use Rattle.std.specs.Option.{option_or}
use Rattle.lapd_clock.specs.Timer.{Lengths, first_out_of_range}
use Rattle.lapd_frame.specs.declared.services.Service.{Service}
use Rattle.lapd_frame.specs.declared.timers.Order.{Order}
use Rattle.lapd_frame.specs.declared.timers.Order.TheVariants.{Start, Stop}
use Rattle.lapd_frame.specs.declared.timers.Timer.{Timer}
use Rattle.lapd_frame.specs.declared.timers.Timer.TheVariants.{T200, T203, T201, T202}
use Rattle.lapd_frame.specs.Services.{sapi_of}
use Rattle.lapd_c.specs.declared.plain.timers.PlainOrder.{PlainOrder}
use Rattle.lapd_c.specs.declared.plain.timers.PlainLengths.{PlainLengths}
use Rattle.lapd_c.specs.declared.plain.timers.PlainTimer.{PlainTimer}
use Rattle.lapd_c.specs.Services.{service_in}
use Rattle.lapd_c.specs.Reserved.{reserve_fault}
use Rattle.lapd_c.specs.Statuses.{wrong_tei, wrong_time, wrong_timer, wrong_order}

abbrev pub plain_timer : Timer → PlainTimer
plain_timer (T200 service tei) = record { timer = 1; service = sapi_of service; tei = tei }
plain_timer (T203 service tei) = record { timer = 2; service = sapi_of service; tei = tei }
plain_timer T201 = record { timer = 3; service = 0; tei = 0 }
plain_timer T202 = record { timer = 4; service = 0; tei = 0 }

abbrev pub no_timer : PlainTimer
no_timer = record { timer = 0; service = 0; tei = 0 }

abbrev pub plain_order : Order → PlainOrder
plain_order (Start timer) = record { order = 1; timer = plain_timer timer }
plain_order (Stop timer) = record { order = 2; timer = plain_timer timer }

-- The link that a timer names, or what is wrong.
abbrev pub with_tei : ℕ → Result Service ℕ → Result (Service × ℕ) ℕ
with_tei tei (Err wrong) = Err wrong
with_tei tei (Ok service) = if nat_lt 126 tei then Err wrong_tei else Ok (service, tei)

abbrev pub link_in : ℕ → ℕ → Result (Service × ℕ) ℕ
link_in service tei = with_tei tei (service_in service)

-- The timer that numbers name, or what is wrong.
abbrev pub timer_of_link : (Service → ℕ → Timer) → Result (Service × ℕ) ℕ → Result Timer ℕ
timer_of_link which (Err wrong) = Err wrong
timer_of_link which (Ok link) = Ok (which link.0 link.1)

abbrev pub timer_in : PlainTimer → Result Timer ℕ
timer_in p =
    if p.timer == 1 then timer_of_link T200 (link_in p.service p.tei)
    else if p.timer == 2 then timer_of_link T203 (link_in p.service p.tei)
    else if p.timer == 3 then Ok T201
    else if p.timer == 4 then Ok T202
    else Err wrong_timer

-- The order that numbers name, or what is wrong.
abbrev pub order_of_timer : (Timer → Order) → Result Timer ℕ → Result Order ℕ
order_of_timer what (Err wrong) = Err wrong
order_of_timer what (Ok timer) = Ok (what timer)

abbrev pub order_in : PlainOrder → Result Order ℕ
order_in p =
    if p.order == 1 then order_of_timer Start (timer_in p.timer)
    else if p.order == 2 then order_of_timer Stop (timer_in p.timer)
    else Err wrong_order

-- How long timers run.
abbrev pub lengths_given : ℕ → ℕ → ℕ → ℕ → Lengths
lengths_given t200 t203 t201 t202 = record { t200 = t200; t203 = t203; t201 = t201; t202 = t202 }

abbrev pub lengths_in : PlainLengths → Lengths
lengths_in p = lengths_given p.t200 p.t203 p.t201 p.t202

-- What is wrong with them: a length is out of range; else what is for a later version is not 0.
abbrev pub lengths_fault : PlainLengths → Option ℕ
lengths_fault p = option_or (option_map (λ _. wrong_time) (first_out_of_range (lengths_in p))) (reserve_fault p.reserved)
