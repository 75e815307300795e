-- When the timers of links run, and what is ordered of them.
use Rattle.std.specs.Prelude.{◌≡◌, ℕ, ◌==◌, ◌&&◌, ◌||◌, not, Bool, true, false, List, [], ◌∷◌, ◌++◌, filter, if◌then◌else◌}
use Rattle.lapd_frame.specs.declared.controls.Control.{Control}
use Rattle.lapd_frame.specs.declared.controls.Control.TheVariants.{Information, ReceiveReady, ReceiveNotReady, Reject, Sabme}
use Rattle.lapd_frame.specs.declared.services.Service.{Service}
use Rattle.lapd_frame.specs.declared.timers.Order.{Order}
use Rattle.lapd_frame.specs.declared.timers.Order.TheVariants.{Start, Stop}
use Rattle.lapd_frame.specs.declared.timers.Timer.{Timer}
use Rattle.lapd_frame.specs.declared.timers.Timer.TheVariants as timers
use Rattle.model_link.specs.declared.timers.LinkTimer.{LinkTimer}
use Rattle.model_link.specs.declared.timers.LinkTimer.TheVariants.{T200, T203}
use Rattle.model_line.specs.declared.config.Config.{Config}
use Rattle.model_line.specs.Event as line_event
use Rattle.model_line.specs.Laws.{orders_in}
use Rattle.model_card.specs.Card.{fresh}
use Rattle.model_card.specs.Event.{Event}
use Rattle.model_card.specs.Run.{moments}
use Rattle.laws_line.specs.card.Timers.{runs_at_callers}
use Rattle.laws_trace.specs.News.{brings}
use Rattle.laws_trace.specs.Observer.{Observed, awaits, enters, view_of, moment_of, view_behind}
use Rattle.laws_trace.specs.Trace.{is_own}

-- T200 of a link runs where an answer is awaited, and T203 where none is, in state 7 (Q.921 clauses 5.9.1, 5.9.8 and
-- 5.10.3).
abbrev pub runs : LinkTimer → Observed → Bool
runs T200 o = awaits o
runs T203 o = o.state == 7 && not (awaits o)

-- In state 7 T200 is started anew by RNR, and by RR, or I while the terminal is not busy, with an N(R) that
-- acknowledges an I-frame: it is not the N(R) heard last; and T203 by RR, REJ, I and SABME (clauses 5.5.1.2, 5.6.3.2,
-- 5.6.4, 5.6.5 and 5.9.8).
abbrev pub renews : LinkTimer → ℕ → Bool → Control → Bool
renews T200 last busy (ReceiveNotReady nr p) = true
renews T200 last busy (ReceiveReady nr p) = not (nr.value == last)
renews T200 last busy (Information ns nr p) = not busy && not (nr.value == last)
renews T203 last busy (ReceiveReady nr p) = true
renews T203 last busy (Reject nr p) = true
renews T203 last busy (Information ns nr p) = true
renews T203 last busy (Sabme p) = true
renews timer last busy other = false

-- And each timer where the link moves to another state, to await another answer, and where T200 expires and leaves it in its own.
abbrev pub is_anew : Config → Service → ℕ → LinkTimer → Observed → Observed → line_event.Event → Bool
is_anew c service tei timer was now what = enters was now || (was.state == 7 && brings (renews timer was.acknowledged was.busy) c service tei what)

-- So a timer is ordered to start where it runs behind an event, and did not run before it, or is started anew; and to stop where it
-- ran before, up to its expiry, and runs no more (profile).
abbrev pub order_due : Config → Service → ℕ → Observed → Observed → line_event.Event → LinkTimer → Timer → List Order
order_due c service tei was now what timer its =
    if runs timer now && (not (runs timer was) || is_anew c service tei timer was now what) then Start its ∷ []
    else if runs timer was && not (runs timer now) then Stop its ∷ [] else []

-- Both of them, T200's first.
abbrev pub orders_due : Config → Service → ℕ → Observed → Observed → line_event.Event → List Order
orders_due c service tei was now what =
    order_due c service tei was now what T200 (timers.T200 service tei) ++ order_due c service tei was now what T203 (timers.T203 service tei)

abbrev pub is_timer_of : Service → ℕ → Timer → Bool
is_timer_of service tei (timers.T200 of by) = is_own service tei of by
is_timer_of service tei (timers.T203 of by) = is_own service tei of by
is_timer_of service tei other = false

abbrev pub is_order_of : Service → ℕ → Order → Bool
is_order_of service tei (Start timer) = is_timer_of service tei timer
is_order_of service tei (Stop timer) = is_timer_of service tei timer

-- The orders of a link in the answer to an event of the line, after whatever happened before, are those that are due.
abbrev pub TimersAreTimely : Config → List Event → ℕ → Type 0
TimersAreTimely c events number =
    (service : Service) (tei : ℕ) (what : line_event.Event) → let was = (view_of c service tei number events).link in
    let now = (view_behind c service tei number events what).link in
    filter (is_order_of service tei) (orders_in (moment_of c events number what).answer) ≡ orders_due c service tei was now what

-- So at a caller's that obeys the orders each timer of a link runs where it is due, after every list of events.
abbrev pub TimersRun : Config → List Event → ℕ → Type 0
TimersRun c events number =
    (service : Service) (tei : ℕ) →
    let ms = moments (fresh c) events in
    let o = (view_of c service tei number events).link in
    (runs_at_callers number (timers.T200 service tei) false ms ≡ runs T200 o) × (runs_at_callers number (timers.T203 service tei) false ms ≡ runs T203 o)
