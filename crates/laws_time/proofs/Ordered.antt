-- The moments of the timers of a link behind an event of its line.
use Rattle.laws_time.proofs.Vocabulary.{AreAtLines, Bool, Clock, Config, IsInRange, LinkTimer, List, None, Observed, Option, Service, Some, T200, T203, Timer, [], ap, cond, duration, false, fold-append, is_anew, is_same, moment_of, not, obeyed, order_due, orders_due, orders_in, refl, runs, timer_of, view_behind, view_of, ℕ, ◌&&◌, ◌+◌, ◌<◌, ◌||◌, ◌∙◌, ◌∷◌, ◌≡◌, arith}
use Rattle.lapd_frame.specs.declared.timers.Order.{Order}
use Rattle.lapd_frame.specs.declared.timers.Order.TheVariants.{Start, Stop}
use Rattle.lapd_frame.specs.declared.timers.Timer.TheVariants as timers
use Rattle.model_line.specs.Event.{Event}
use Rattle.model_card.specs.Card.{fresh}
use Rattle.model_card.specs.Event as card
use Rattle.laws_trace.specs.Observer as observer
use Rattle.laws_trace.proofs.TimersOrdered.{timers-are-timely}
use Rattle.laws_time.proofs.Moments.{IsOf, by_order, by_orders, all, of-link, itself}

abbrev pub starts : Config → Service → ℕ → LinkTimer → Observed → Observed → Event → Bool
starts c service tei timer o q what = runs timer q && (not (runs timer o) || is_anew c service tei timer o q what)

abbrev pub left : Config → Service → ℕ → LinkTimer → Observed → Observed → Event → ℕ → Option ℕ → Option ℕ
left c service tei timer o q what then_due m = cond (starts c service tei timer o q what) (Some then_due) (cond (runs timer o && not (runs timer q)) None m)

module _ (service : Service) (tei : ℕ) (then_due : ℕ) where
  half : (its : Timer) (a b : Bool) (m : Option ℕ) → by_orders its then_due (cond a (Start its ∷ []) (cond b (Stop its ∷ []) [])) m ≡ cond a (Some then_due) (cond b None m)
  half its h b m = grind (arith, cond, itself)

  apart : (timer other : LinkTimer) (a b : Bool) (m : Option ℕ) → is_same (timer_of service tei other) (timer_of service tei timer) ≡ false
      → let its = timer_of service tei other in by_orders (timer_of service tei timer) then_due (cond a (Start its ∷ []) (cond b (Stop its ∷ []) [])) m ≡ m
  apart timer other h b m differs = grind arith

  pub left-is : (c : Config) (o q : Observed) (what : Event) (m : Option ℕ) (timer : LinkTimer)
      → by_orders (timer_of service tei timer) then_due (orders_due c service tei o q what) m ≡ left c service tei timer o q what then_due m
  left-is c o q what m T200 =
      fold-append (by_order (timers.T200 service tei) then_due) m (order_due c service tei o q what T200 (timers.T200 service tei)) (order_due c service tei o q what T203 (timers.T203 service tei))
      ∙ apart T200 T203 (starts c service tei T203 o q what) (runs T203 o && not (runs T203 q)) (by_orders (timers.T200 service tei) then_due (order_due c service tei o q what T200 (timers.T200 service tei)) m) refl
      ∙ half (timers.T200 service tei) (starts c service tei T200 o q what) (runs T200 o && not (runs T200 q)) m
  left-is c o q what m T203 =
      fold-append (by_order (timers.T203 service tei) then_due) m (order_due c service tei o q what T200 (timers.T200 service tei)) (order_due c service tei o q what T203 (timers.T203 service tei))
      ∙ half (timers.T203 service tei) (starts c service tei T203 o q what) (runs T203 o && not (runs T203 q)) (by_orders (timers.T203 service tei) then_due (order_due c service tei o q what T200 (timers.T200 service tei)) m)
      ∙ ap (left c service tei T203 o q what then_due) (apart T203 T200 (starts c service tei T200 o q what) (runs T200 o && not (runs T200 q)) m refl)

pub is-of : (service : Service) (tei : ℕ) (timer : LinkTimer) → IsOf service tei (timer_of service tei timer)
is-of service tei h = grind arith

-- After a run, and an event.
module _ (c : Config) (events : List card.Event) (number : ℕ) (ranged : IsInRange c) (all_at : AreAtLines (fresh c) events) (within : number < c.lines) (service : Service) (tei : ℕ) (what : Event) (b : Clock) (timer : LinkTimer) where
  abbrev its : Timer
  its = timer_of service tei timer

  abbrev o : Observed
  o = (view_of c service tei number events).link

  abbrev q : Observed
  q = (view_behind c service tei number events what).link

  abbrev ordered : List Order
  ordered = orders_in (observer.moment_of c events number what).answer

  pub moment-left : moment_of number its (obeyed number ordered b).running ≡ left c service tei timer o q what (b.now + duration b.lengths its) (moment_of number its b.running)
  moment-left =
      let t = b.now + duration b.lengths its in let m = moment_of number its b.running in
      all number its b ordered ∙ of-link service tei its t ordered m (is-of service tei timer)
      ∙ ap (λ xs. by_orders its t xs m) (timers-are-timely c events number ranged all_at within service tei what) ∙ left-is service tei t c o q what m timer
