-- When a timer of a link falls due behind orders.
use Rattle.laws_time.proofs.Vocabulary.{Event, Bool, Clock, List, None, Option, Order, Service, Some, Start, Stop, [], ap, arith, both-true, cond, duration, eq-eqb, eqb-true, false, filter, fold, is_order_of, is_own, is_same, is_timer_of, moment_of, obey, obeyed, own-is, refl, same_service, services-equal, at}
use Rattle.laws_time.proofs.Vocabulary.{true, ℕ, ◌&&◌, ◌+◌, ◌==◌, ◌∙◌, ◌∷◌, ◌≡◌, ◌⊎◌}
pub use Rattle.model_timed.proofs.Orders.{equal as same, itself, lengths-stay, now-stays}
use Rattle.model_timed.proofs.Orders.{start-moves, stop-moves}
use Rattle.lapd_clock.specs.Timer.{Timer, T200, T203}
use Rattle.lapd_frame.specs.declared.timers.Timer.TheVariants as timers
use Rattle.model_line.specs.Event as line_event

-- A timer of the link, or not.
abbrev pub IsOf : Service → ℕ → Timer → Type 0
IsOf service tei its = (its ≡ T200 service tei) ⊎ (its ≡ T203 service tei)

-- What orders make of the moment of one timer, where a timer that is started falls due so.
abbrev pub by_order : Timer → ℕ → Option ℕ → Order → Option ℕ
by_order its then m (Start timer) = cond (is_same timer its) (Some then) m
by_order its then m (Stop timer) = cond (is_same timer its) None m

abbrev pub by_orders : Timer → ℕ → List Order → Option ℕ → Option ℕ
by_orders its then orders m = fold (by_order its then) m orders

module _ (line : ℕ) (its : Timer) where
  here : (line == line) ≡ true
  here = eq-eqb line line refl

  one : (c : Clock) (o : Order) → moment_of line its (obey line c o).running ≡ by_order its (c.now + duration c.lengths its) (moment_of line its c.running) o
  one c (Start timer) = start-moves line timer c line its ∙ ap (λ b. cond (b && is_same timer its) (Some (c.now + duration c.lengths its)) (moment_of line its c.running)) here
  one c (Stop timer) = stop-moves line timer c line its ∙ ap (λ b. cond (b && is_same timer its) None (moment_of line its c.running)) here

  kept : (c : Clock) (o : Order) → ((obey line c o).now ≡ c.now) × ((obey line c o).lengths ≡ c.lengths)
  kept c o = grind arith

  pub all : (c : Clock) (orders : List Order) → moment_of line its (obeyed line orders c).running ≡ by_orders its (c.now + duration c.lengths its) orders (moment_of line its c.running)
  all c [] = refl
  all c (o ∷ orders) =
      all (obey line c o) orders
      ∙ ap (λ m. by_orders its m orders (moment_of line its (obey line c o).running)) (ap (λ n. n + duration (obey line c o).lengths its) (kept c o).0 ∙ ap (λ l. c.now + duration l its) (kept c o).1)
      ∙ ap (by_orders its (c.now + duration c.lengths its) orders) (one c o)

-- Orders at another line.
pub elsewhere : (line l : ℕ) (its : Timer) (c : Clock) (orders : List Order) → (l == line) ≡ false → moment_of line its (obeyed l orders c).running ≡ moment_of line its c.running
elsewhere line l its c [] other = refl
elsewhere line l its c (Start timer ∷ orders) other =
    elsewhere line l its (obey l c (Start timer)) orders other ∙ start-moves l timer c line its
    ∙ ap (λ b. cond (b && is_same timer its) (Some (c.now + duration c.lengths its)) (moment_of line its c.running)) other
elsewhere line l its c (Stop timer ∷ orders) other =
    elsewhere line l its (obey l c (Stop timer)) orders other ∙ stop-moves l timer c line its ∙ ap (λ b. cond (b && is_same timer its) None (moment_of line its c.running)) other

-- Only the orders of the link count.
pub own : (service : Service) (tei : ℕ) (its other : Timer) → IsOf service tei its → is_same other its ≡ true → is_timer_of service tei other ≡ true
own service tei its other h1z h2z = grind (arith, own-is)

-- A timer that is not of the link differs from its own.
pub differs : (service : Service) (tei : ℕ) (timer its : Timer) → IsOf service tei its → is_timer_of service tei timer ≡ false → is_same timer its ≡ false
differs service tei timer its of none = grind arith

-- Each timer of the link is one of two.
pub own-same : (service : Service) (tei : ℕ) (of : Service) (by : ℕ) → is_own service tei of by ≡ true → (of ≡ service) × (by ≡ tei)
own-same service tei of by own = let both = both-true (same_service of service) (by == tei) own in (services-equal of service both.0, eqb-true by tei both.1)

pub own-timer : (service : Service) (tei : ℕ) (P : Timer → Type 0) → P (T200 service tei) → P (T203 service tei) → (timer : Timer) → is_timer_of service tei timer ≡ true → P timer
own-timer service tei h first second other own = grind arith

pub each-timer : (service : Service) (tei : ℕ) (P : Timer → Type 0) → ((timer : Timer) → is_timer_of service tei timer ≡ false → P timer) → P (T200 service tei) → P (T203 service tei) → (timer : Timer) → P timer
each-timer service tei h other first second timer = grind arith

abbrev pub is_own_t200 : Service → ℕ → line_event.Event → Bool
is_own_t200 service tei (line_event.expiry (timers.T200 of by)) = is_own service tei of by
is_own_t200 service tei other = false

pub foreign-t200 : (service : Service) (tei : ℕ) (timer : Timer) → is_timer_of service tei timer ≡ false → is_own_t200 service tei (line_event.expiry timer) ≡ false
foreign-t200 service tei timer h1z = grind arith

by-one : (service : Service) (tei : ℕ) (its : Timer) (then : ℕ) (o : Order) (m : Option ℕ) → IsOf service tei its → is_order_of service tei o ≡ false → by_order its then m o ≡ m
by-one service tei its then o m h1z h2z = grind arith

by-first : (service : Service) (tei : ℕ) (its : Timer) (then : ℕ) (o : Order) (rest : List Order) (m : Option ℕ) → IsOf service tei its → (b : Bool) → is_order_of service tei o ≡ b
    → by_orders its then rest (by_order its then m o) ≡ by_orders its then (cond b (o ∷ rest) rest) m
by-first service tei its then o rest m h1z b h2z = grind (arith, by-one)

pub of-link : (service : Service) (tei : ℕ) (its : Timer) (then : ℕ) (orders : List Order) (m : Option ℕ) → IsOf service tei its
    → by_orders its then orders m ≡ by_orders its then (filter (is_order_of service tei) orders) m
of-link service tei its then [] m of = refl
of-link service tei its then (o ∷ orders) m of =
    of-link service tei its then orders (by_order its then m o) of ∙ by-first service tei its then o (filter (is_order_of service tei) orders) m of (is_order_of service tei o) refl

-- What holds of events of a line and of the others holds of any.
pub at-lines : (number : ℕ) (P : Event → Type 0) (e : Event) → ((e.line == number) ≡ false → P e) → ((e.line == number) ≡ true → P (at number e.what)) → P e
at-lines number h e apart here = grind arith
