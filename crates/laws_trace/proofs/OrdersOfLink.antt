-- The orders of a link, among those of an answer.
use Rattle.laws_trace.proofs.Vocabulary.{ap, ◌∙◌, ◌++◌}
use Rattle.model_teis.specs.declared.terminal.procedure.Procedure.{Procedure}
use Rattle.laws_line.proofs.Changes.{AreOfLine, IsOfLine}
use Rattle.model_teis.specs.terminal.Words.{stop_of as stop_202}
use Rattle.laws_trace.proofs.Vocabulary.{arith, ◌≡◌, ℕ, ◌==◌, ◌&&◌, Bool, true, false, cond, not, List, [], ◌∷◌, Option, refl, filter, filter-append, Service, Order, Start, Stop, Timer, same_service, Terms, LinkTimer, Link, obeyed, runs, timer_at, orders_for, timer_of, obeyed-append, stop_of, Check, obey, is_order_of, LinkEvent as Event, course, link_told as told, cond_both}
use Rattle.laws_trace.proofs.Facts.{its-own}

-- Its orders among others, or none.
abbrev pub its_orders : Service → ℕ → List Order → List Order
its_orders service tei orders = filter (is_order_of service tei) orders

-- Those of an event of a link are its own, or of another one.
pub of-event : (t : Terms) (service : Service) (tei : ℕ) (d : Bool) → (same_service t.service service && t.tei == tei) ≡ d → (before started after : Option LinkTimer)
    → its_orders service tei (orders_for t before started after) ≡ cond d (orders_for t before started after) []
of-event t service tei d is before started after = grind (arith, filter-append)

pub other-ordered : (t : Terms) (e : Event) (x : Link) (service : Service) (tei : ℕ) → (same_service t.service service && t.tei == tei) ≡ false → its_orders service tei (told t e x).orders ≡ []
other-ordered t e x service tei other = let c = course t e x in of-event t service tei false other x.running c.started c.link.running

pub own-ordered : (t : Terms) (before started after : Option LinkTimer) → its_orders t.service t.tei (orders_for t before started after) ≡ orders_for t before started after
own-ordered t before started after = of-event t t.service t.tei true (its-own t.service t.tei) before started after

-- nor by TEI management.
one-order-none : (service : Service) (tei : ℕ) (o : Order) → IsOfLine o → is_order_of service tei o ≡ false
one-order-none service tei o h = grind arith

pub management-orders-none : (service : Service) (tei : ℕ) (orders : List Order) → AreOfLine orders → its_orders service tei orders ≡ []
management-orders-none service tei [] h = refl
management-orders-none service tei (o ∷ orders) h =
    ap (λ b. cond b (o ∷ its_orders service tei orders) (its_orders service tei orders)) (one-order-none service tei o h.0) ∙ management-orders-none service tei orders h.1

-- nor where the line goes down.
pub down-orders-none : (service : Service) (tei : ℕ) (o : Option Check) (p : Option Procedure) → its_orders service tei (stop_of o ++ stop_202 p) ≡ []
down-orders-none service tei o p = grind arith

-- A caller's timer of the link obeys these alone.
pub obeys-its : (service : Service) (tei : ℕ) (timer : LinkTimer) (running : Bool) (orders : List Order)
    → obeyed (timer_of service tei timer) running orders ≡ obeyed (timer_of service tei timer) running (its_orders service tei orders)
obeys-its service tei timer running [] = refl
obeys-its service tei timer running (o ∷ orders) = go o (is_order_of service tei o) refl (λ r. obeys-its service tei timer r orders)
  where
    its : Timer
    its = timer_of service tei timer

    go : (o : Order) (b : Bool) → is_order_of service tei o ≡ b → ((r : Bool) → obeyed its r orders ≡ obeyed its r (its_orders service tei orders))
        → obeyed its (obey its running o) orders ≡ obeyed its running (cond (is_order_of service tei o) (o ∷ its_orders service tei orders) (its_orders service tei orders))
    go o b is more = grind (arith, its)

pub starts-own : (t : Terms) (timer : LinkTimer) (before started after : Option LinkTimer) → obeyed (timer_at t timer) false (orders_for t before started after) ≡ (runs timer started && runs timer after)
starts-own t timer before started after = grind (arith, obeyed-append, its-own, cond_both)

-- A timer's orders, by whether they start it, whether it ran before, and whether it runs then.
abbrev pub order_by : Bool → Bool → Bool → Timer → List Order
order_by starts ran runs its = cond starts (Start its ∷ []) (cond (ran && not runs) (Stop its ∷ []) [])
