-- What a link answers.
use Rattle.std.specs.Prelude.{ℕ, zero, suc, ◌+◌, Bool, false, true, List, [], ◌∷◌, ◌++◌, Option, Some, None, ◌&&◌, not, if◌then◌else◌}
use Rattle.lapd_frame.specs.declared.notes.Note.{Note}
use Rattle.lapd_frame.specs.declared.services.Service.{Service}
use Rattle.lapd_frame.specs.declared.services.Service.TheVariants.{Call, Packet}
use Rattle.lapd_frame.specs.declared.timers.Order.{Order}
use Rattle.lapd_frame.specs.declared.timers.Order.TheVariants.{Start, Stop}
use Rattle.lapd_frame.specs.declared.timers.Timer.{Timer}
use Rattle.lapd_frame.specs.declared.timers.Timer.TheVariants as line_timer
use Rattle.model_link.specs.declared.timers.LinkTimer.{LinkTimer}
use Rattle.model_link.specs.declared.timers.LinkTimer.TheVariants.{T200, T203}
use Rattle.model_link.specs.declared.frames.ControlFrame.{ControlFrame}
use Rattle.model_link.specs.declared.terms.Terms.{Terms}

-- What an event tells layer 3, layer management and the timers.
pub record LinkTold : Type 0 where
  pub notes : List Note
  -- the contents of an I-frame, and of a UI frame
  pub delivered : Option (List ℕ)
  pub unit : Option (List ℕ)
  pub orders : List Order
  -- control frames that found no place to wait
  pub lost : ℕ
  -- how many contents that were granted are given up, sent or not: of call control, and of the second service
  pub given_up : ℕ
  pub given_up_16 : ℕ
  -- the state does not serve the frame
  pub unserved : Bool

-- A number of contents of a link, as one of call control, and as one of the second service.
abbrev pub of_call : Service → ℕ → ℕ
of_call service zero = 0
of_call Call (suc n) = suc n
of_call Packet (suc n) = 0

abbrev pub of_packet : Service → ℕ → ℕ
of_packet service zero = 0
of_packet Call (suc n) = 0
of_packet Packet (suc n) = suc n

-- What an offer gives: the frame, the contents that go with it if it is an I-frame, and orders for the timers.
pub record Given : Type 0 where
  pub frame : ControlFrame
  pub contents : Option (List ℕ)
  pub orders : List Order

-- Timers, and the orders for them.
abbrev pub is_timer : LinkTimer → LinkTimer → Bool
is_timer T200 T200 = true
is_timer T200 T203 = false
is_timer T203 T200 = false
is_timer T203 T203 = true

abbrev pub runs : LinkTimer → Option LinkTimer → Bool
runs timer None = false
runs timer (Some running) = is_timer timer running

-- A link's timer, as one of the line's.
abbrev pub timer_at : Terms → LinkTimer → Timer
timer_at t T200 = line_timer.T200 t.service t.tei
timer_at t T203 = line_timer.T203 t.service t.tei

-- Start where the event started the timer and left it running, Stop where it ran before the event and does not run
-- after it (profile). A timer's own expiry is an event before which it ran.
abbrev pub order_for : Terms → LinkTimer → Option LinkTimer → Option LinkTimer → Option LinkTimer → List Order
order_for t timer before started after =
    if runs timer started && runs timer after then Start (timer_at t timer) ∷ []
    else if runs timer before && not (runs timer after) then Stop (timer_at t timer) ∷ []
    else []

-- T200's comes before T203's.
abbrev pub orders_for : Terms → Option LinkTimer → Option LinkTimer → Option LinkTimer → List Order
orders_for t before started after = order_for t T200 before started after ++ order_for t T203 before started after

-- How many timers orders start.
abbrev pub is_start : Order → Bool
is_start (Start timer) = true
is_start (Stop timer) = false

unfoldable pub starts : List Order → ℕ
starts [] = 0
starts (order ∷ more) = (if is_start order then 1 else 0) + starts more
