-- What obeying the orders of a link, or of TEI management, comes to for each timer of a line.
use Rattle.model_line.proofs.Vocabulary.{arith, ◌≡◌, ℕ, ◌==◌, ◌&&◌, Bool, true, false, cond, List, ◌++◌, eq-eqb, fold-append, Service, Order, Timer, T200, T203, same_service, LinkTimer, Terms, Link, is_same, obey, obeyed, IsTimed, ComesInStep, runs, timer_at, stays-in-step, comes-in-step, leaves-others, link_expired, LinkEvent, link_told, link_after}

-- A link's timer of the line, by its link_timer.
abbrev pub timer_of : LinkTimer → Service → ℕ → Timer
timer_of LinkTimer.T200 service tei = T200 service tei
timer_of LinkTimer.T203 service tei = T203 service tei

pub obeyed-append : (timer : Timer) (b : Bool) (xs ys : List Order) → obeyed timer b (xs ++ ys) ≡ obeyed timer (obeyed timer b xs) ys
obeyed-append timer b xs ys = fold-append (obey timer) b xs ys

-- A timer of a link is that of a service and a TEI.
pub service-same : (s : Service) → same_service s s ≡ true
service-same s = grind arith

pub services-equal : (s other : Service) → same_service s other ≡ true → s ≡ other
services-equal s other e = grind arith

pub both-true : (a b : Bool) → (a && b) ≡ true → (a ≡ true) × (b ≡ true)
both-true a b e = grind arith

-- T201 of TEI management
-- What a caller does with a link's timers, which it left as `left` says, by the orders of an event: each of the link's
-- runs where the link runs it, and each other is as it was.
pub record Steers (t : Terms) (left : Timer → Bool → Bool) (orders : List Order) (before after : Link) : Type 0 where
  pub own : (k : LinkTimer) → obeyed (timer_at t k) (left (timer_at t k) (runs k before.running)) orders ≡ runs k after.running
  pub others : (timer : Timer) (running : Bool) → is_same (timer_at t LinkTimer.T200) timer ≡ false → is_same (timer_at t LinkTimer.T203) timer ≡ false
      → obeyed timer (left timer running) orders ≡ running

abbrev pub as_it_was : Timer → Bool → Bool
as_it_was timer running = running

pub steers-event : (t : Terms) (e : LinkEvent) (l : Link) → Steers t as_it_was (link_told t e l).orders l (link_after t e l)
steers-event t e l = record { own = λ k. stays-in-step t e l k; others = λ timer running one two. leaves-others t e l timer running one two }

-- the same where a timer has expired, which runs no more at the caller's
abbrev pub without : Timer → Timer → Bool → Bool
without expired timer running = cond (is_same expired timer) false running

itself : (s : Service) (tei : ℕ) → (same_service s s && (tei == tei)) ≡ true
itself s tei = grind (arith, eq-eqb)

comes : (t : Terms) (l : Link) (k : LinkTimer) → IsTimed l → (b : Bool) → runs k l.running ≡ b → ComesInStep t (link_expired k) l k
comes t l k h b e = grind (arith, comes-in-step, stays-in-step)

pub steers-expiry : (t : Terms) (k : LinkTimer) (l : Link) → IsTimed l
    → Steers t (without (timer_at t k)) (link_told t (link_expired k) l).orders l (link_after t (link_expired k) l)
steers-expiry t k l h = grind (arith, leaves-others, itself, comes, stays-in-step)
