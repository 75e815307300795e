-- What obeying orders comes to.
use Rattle.model_link.proofs.Vocabulary.{arith, ◌≡◌, Bool, true, false, List, [], ◌∷◌, Option, eq-eqb, cond, not, ◌&&◌, inl, State, LinkTimer, T200, T203, Terms, Link, begun, Order, Timer, runs, timer_at, orders_for, is_same, obeyed, IsTimed, IsTimedIn, StaysInStep, ComesInStep, Event, expired, course, expired_in, told}
use Rattle.model_link.proofs.Leads.{depending_leads}
use Rattle.model_link.proofs.InStep.{Comes, comes-step}

-- What obeying an event's orders comes to: orders for one timer, before or after those for the other.
module _ (own other : Timer) (r : Bool) (same : is_same own own ≡ true) (differs : is_same other own ≡ false) where
  abbrev orders_of : Timer → Bool → Bool → List Order
  orders_of timer starts stops = cond starts (Order.Start timer ∷ []) (cond stops (Order.Stop timer ∷ []) [])

itself : (t : Terms) (timer : LinkTimer) → is_same (timer_at t timer) (timer_at t timer) ≡ true
itself t timer = grind (arith, eq-eqb)

-- started and running; running before and not after
right : (a b : Bool) → (a && b) ≡ true → b ≡ true
right a b e = grind arith

stopped : (a b : Bool) → (a && not b) ≡ true → b ≡ false
stopped a b e = grind arith

comes-to : (t : Terms) (before started after : Option LinkTimer) (timer : LinkTimer) (b : Bool)
    → ((runs timer started && runs timer after) ≡ false → (runs timer before && not (runs timer after)) ≡ false → b ≡ runs timer after)
    → obeyed (timer_at t timer) b (orders_for t before started after) ≡ runs timer after
comes-to t before started after timer b z = grind (arith, itself, right, stopped)

by-orders : (t : Terms) (before started after : Option LinkTimer) (timer : LinkTimer) → Comes before after started
    → obeyed (timer_at t timer) (runs timer before) (orders_for t before started after) ≡ runs timer after
by-orders t before started after timer h = grind (arith, comes-to)

pub stays-in-step : (t : Terms) (e : Event) (l : Link) (timer : LinkTimer) → StaysInStep t e l timer
stays-in-step t e l timer =
    let c = course t e l in
    by-orders t l.running c.started c.link.running timer (comes-step l.running t e (begun l) (record { from = λ other e. inl e }))

pub leaves-others : (t : Terms) (e : Event) (l : Link) (timer : Timer) (running : Bool) → is_same (timer_at t T200) timer ≡ false → is_same (timer_at t T203) timer ≡ false
    → obeyed timer running (told t e l).orders ≡ running
leaves-others t e l timer running one two = grind arith

-- A timer that has expired: it is started anew, or the link runs none.
record Anew (started running : Option LinkTimer) : Type 0 where
  pub is : started ≡ running

anew : (t : Terms) (here : State) (l : Link) (timer : LinkTimer) → IsTimedIn here l → runs timer l.running ≡ true
    → Anew (expired_in here timer t (begun l)).started (expired_in here timer t (begun l)).link.running
anew t here l timer h e = grind (arith, depending_leads)

-- so its order says how it is after the event
not-anew : (started after : Bool) → started ≡ after → (started && after) ≡ false → false ≡ after
not-anew started after same x = grind arith

pub comes-in-step : (t : Terms) (l : Link) (timer : LinkTimer) → IsTimed l → runs timer l.running ≡ true → ComesInStep t (expired timer) l timer
comes-in-step t l timer h e = grind (arith, anew, comes-to, not-anew)
