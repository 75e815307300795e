-- Which timer of a link runs, and what becomes of the timers of a caller that obeys the orders.
use Rattle.std.specs.Prelude.{◌≡◌, ◌⊎◌, ◌≤◌, ◌==◌, ◌&&◌, Bool, true, false, List, fold, None, Some, if◌then◌else◌}
use Rattle.lapd_frame.specs.Services.{same_service}
use Rattle.lapd_frame.specs.declared.timers.Order.{Order}
use Rattle.lapd_frame.specs.declared.timers.Order.TheVariants.{Start, Stop}
use Rattle.lapd_frame.specs.declared.timers.Timer.{Timer}
use Rattle.lapd_frame.specs.declared.timers.Timer.TheVariants as timers
use Rattle.model_link.specs.declared.states.State.{State}
use Rattle.model_link.specs.declared.states.State.TheVariants.{TeiAssigned, AwaitingEstablishment, AwaitingRelease, Established, TimerRecovery}
use Rattle.model_link.specs.declared.timers.LinkTimer.{LinkTimer}
use Rattle.model_link.specs.declared.timers.LinkTimer.TheVariants.{T200, T203}
use Rattle.model_link.specs.declared.terms.Terms.{Terms}
use Rattle.model_link.specs.Link.{Link}
use Rattle.model_link.specs.Events.{Event}
use Rattle.model_link.specs.Machine.{after, told}
use Rattle.model_link.specs.Told.{runs, timer_at}

-- In state 4 no timer runs. In states 5, 6 and 8 the link awaits an answer, and T200 runs. In state 7 T200 runs, or
-- T203 where no I-frame is outstanding.
abbrev pub IsTimedIn : State → Link → Type 0
IsTimedIn TeiAssigned l = l.running ≡ None
IsTimedIn AwaitingEstablishment l = l.running ≡ Some T200
IsTimedIn AwaitingRelease l = l.running ≡ Some T200
IsTimedIn Established l = (l.running ≡ Some T200) ⊎ ((l.running ≡ Some T203) × (l.s ≤ l.a))
IsTimedIn TimerRecovery l = l.running ≡ Some T200

pub record IsTimed (l : Link) : Type 0 where
  pub timer : IsTimedIn l.state l

-- Whether two timers of a line are the same one.
abbrev pub is_same : Timer → Timer → Bool
is_same (timers.T200 service tei) (timers.T200 other by) = same_service service other && tei == by
is_same (timers.T203 service tei) (timers.T203 other by) = same_service service other && tei == by
is_same timers.T201 timers.T201 = true
is_same timers.T202 timers.T202 = true
is_same one other = false

-- Whether a timer runs at a caller's that obeys orders, one after the other: a Start of it starts it, or starts it
-- anew, a Stop stops it, and an order for another timer leaves it.
abbrev pub obey : Timer → Bool → Order → Bool
obey timer running (Start other) = if is_same other timer then true else running
obey timer running (Stop other) = if is_same other timer then false else running

abbrev pub obeyed : Timer → Bool → List Order → Bool
obeyed timer running orders = fold (obey timer) running orders

-- A caller that obeys the orders of an event runs the link's timers that the link runs: if its timer ran before the
-- event where the link's did, it does after it.
abbrev pub StaysInStep : Terms → Event → Link → LinkTimer → Type 0
StaysInStep t e l timer =
    obeyed (timer_at t timer) (runs timer l.running) (told t e l).orders ≡ runs timer (after t e l).running

-- The same where its timer has just expired, and so runs no more when the event begins.
abbrev pub ComesInStep : Terms → Event → Link → LinkTimer → Type 0
ComesInStep t e l timer = obeyed (timer_at t timer) false (told t e l).orders ≡ runs timer (after t e l).running
