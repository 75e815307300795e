-- The timers of a link are started as they are due: each event of a line.
use Rattle.laws_trace.proofs.Vocabulary.{arith, ◌≡◌, ℕ, ◌&&◌, ◌||◌, not, Bool, true, false, Option, Some, None, refl, sym, ap, ◌∙◌, true≢false, inl, inr, option_map_or, Service, Timer, place_of-is, is_on-at, HasItsTimer, State, Terms, LinkTimer, Link, obeyed, runs, Config, Answer, orders_in, Line, link_of, place_in, has_tei, state_of, terms, IsInRange, timer_of, is_needed, left_by}
use Rattle.laws_trace.proofs.Vocabulary.{HaveTheirTimers, followed, timely-line, List, ◌++◌, Order, order_for, orders_for, T200, T203, Event, line_after as after, answer, IsSound, seen, and-false, and-true, offer, link_after, given, course, TimerT203, TimerT200}
use Rattle.model_link.specs.Sound as link_sound
use Rattle.laws_trace.proofs.TimersWatched.{Known, control_in, renews, is_anew}
use Rattle.laws_trace.proofs.States.{is_state, differ}
use Rattle.laws_trace.proofs.Deliveries.{frame_by}
use Rattle.laws_trace.proofs.OneLink.{HasOne, HasNone, Goes, event-goes}
use Rattle.laws_trace.proofs.TimerActs.{timing}
use Rattle.laws_trace.proofs.TimerClaims.{told_state}
use Rattle.laws_trace.proofs.TimerEvents.{event-good}
use Rattle.laws_trace.proofs.TimerOffers.{Offered, given_sent}
use Rattle.laws_trace.proofs.TimersOfLine.{seen-brings}
use Rattle.laws_trace.proofs.TimersOfEvent.{IsTrueOf, state-on, off-fresh, needed-is}
use Rattle.laws_trace.proofs.TimersOfEvent as events
use Rattle.laws_trace.proofs.OrdersOfLink.{its_orders, own-ordered, obeys-its, starts-own, order_by}

module _ (c : Config) (ranged : IsInRange c) (l : Line) (s : IsSound c l) (timed : HaveTheirTimers l) (service : Service) (tei : ℕ) (k : Known)
    (agrees : IsTrueOf service tei k l) (e : Event) where
  abbrev a : Answer
  a = answer c e l

  abbrev t : Terms
  t = terms c service tei

  abbrev own : Link
  own = link_of service tei l

  abbrev new : Link
  new = link_of service tei (after c e l)

  abbrev next_timed : HaveTheirTimers (after c e l)
  next_timed = timely-line c e l ranged s timed

  abbrev One : Type 0
  One = HasOne c service tei e l (after c e l) (answer c e l)

  sound : One → link_sound.IsSound t own
  sound x = events.sound c ranged l s timed service tei k agrees e x

  range : One → link_sound.IsInRange t
  range x = events.range c ranged l s timed service tei k agrees e x

  own-timed : (place : ℕ) → place_in l tei ≡ Some place → HasItsTimer own
  own-timed place is = events.own-timed c ranged l s timed service tei k agrees e place is

  offers : One → Offered k own (timing (course t offer own)) (option_map_or given_sent (given t own) None)
  offers x = events.offers c ranged l s timed service tei k agrees e x

  -- When a timer is started.
  module _ (timer : LinkTimer) where
    abbrev its : Timer
    its = timer_of service tei timer

    abbrev was : Bool
    was = left_by e its (is_needed its l)

    abbrev is_due : Bool
    is_due = is_anew c service tei timer k (state_of service tei l) (state_of service tei (after c e l)) (seen e a)

    placed-if : (x : Line) → HaveTheirTimers x → is_needed its x ≡ true → (place : ℕ) × (place_in x tei ≡ Some place)
    placed-if x h needs = go (place_in x tei) refl
      where
        go : (o : Option ℕ) → place_in x tei ≡ o → (place : ℕ) × (place_in x tei ≡ Some place)
        go (Some place) on = (place, on)
        go None off = absurd (true≢false (sym needs ∙ needed-is service tei x h timer ∙ ap (λ (y : Link). runs timer y.running) (off-fresh service tei x off)))

    on-line : (x : Line) (place : ℕ) → place_in x tei ≡ Some place → has_tei tei x ≡ true
    on-line x place on = is_on-at x.management.places place tei (place_of-is x.management.places tei place on).1

    differ-same : (state : State) → differ (told_state state) (told_state state) ≡ false
    differ-same state = grind arith

    none-due : (place there : ℕ) → place_in l tei ≡ Some place → place_in (after c e l) tei ≡ Some there → new.state ≡ own.state
        → control_in service tei (frame_by c e) ≡ None → is_due ≡ false
    none-due place there on stays same control = grind (arith, is_anew, state-on, told_state, differ, is_state, seen-brings, renews, differ-same, and-false)

    abbrev Started : Type 0
    Started = was ≡ true → is_needed its (after c e l) ≡ true → obeyed its false (orders_in a) ≡ is_due

    starts-by : (before started later : Option LinkTimer) → obeyed its false (orders_for t before started later) ≡ (runs timer started && runs timer later)
    starts-by before started later = ap (λ u. obeyed u false (orders_for t before started later)) (grind arith) ∙ starts-own t timer before started later

    none-starts : HasNone c service tei e l (after c e l) a → obeyed its false (orders_in a) ≡ false
    none-starts x = obeys-its service tei timer false (orders_in a) ∙ ap (obeyed its false) x.orders ∙ starts-by own.running None new.running

    none-started : HasNone c service tei e l (after c e l) a → Started
    none-started x ran runs_on =
        let here = placed-if l timed (grind arith) in
        let there = placed-if (after c e l) next_timed runs_on in
        let same = x.stays (on-line l here.0 here.1) (on-line (after c e l) there.0 there.1) in
        none-starts x ∙ sym (none-due here.0 there.0 here.1 there.1 (ap (λ (y : Link). y.state) same) (events.no-control c ranged l s timed service tei k agrees e x here.0 here.1))

    one-started : HasOne c service tei e l (after c e l) a → Started
    one-started x ran runs_on =
        let there = placed-if (after c e l) next_timed runs_on in
        let needs : is_needed its l ≡ runs timer own.running = needed-is service tei l timed timer in
        let runs_later : runs timer (link_after t x.event own).running ≡ true =
        ap (λ (y : Link). runs timer y.running) (sym x.is) ∙ sym (needed-is service tei (after c e l) next_timed timer) ∙ runs_on in
        let starts : obeyed its false (orders_in a) ≡ runs timer (course t x.event own).started =
        ap (obeyed its false) x.orders ∙ starts-by own.running (course t x.event own).started (course t x.event own).link.running
        ∙ ap (λ b. runs timer (course t x.event own).started && b) runs_later ∙ and-true (runs timer (course t x.event own).started) in
        starts ∙ events.either c ranged l s timed service tei k agrees e x
        (λ o.
        let g = event-good t k own (sound x) (range x).k_high (own-timed x.place x.placed) agrees x.event o.no_offer o.no_cleared in
        g.anew timer (sym (o.left timer) ∙ ap (left_by e its) (sym needs) ∙ ran) runs_later
        ∙ sym (grind (arith, is_anew, state-on, told_state, differ, is_state, seen-brings, renews)))
        (λ is offered.
        let own_ran : runs timer own.running ≡ true = sym needs ∙ ap (λ e. left_by e its (is_needed its l)) (sym is) ∙ ran in
        ap (λ event. runs timer (course t event own).started) offered
        ∙ (offers x).quiet timer own_ran (ap (λ event. runs timer (link_after t event own).running) (sym offered) ∙ runs_later)
        ∙ sym (none-due x.place there.0 x.placed there.1 (ap (λ (y : Link). y.state) (x.is ∙ ap (λ event. link_after t event own) offered) ∙ (offers x).state)
        (ap (λ e. control_in service tei (frame_by c e)) is)))

    started : Started
    started = go (event-goes c e l service tei s)
      where
        go : Goes c service tei e l (after c e l) a → Started
        go (inl x) = none-started x
        go (inr (inl x)) = one-started x
        go (inr (inr x)) = λ ran runs_on.
            absurd (true≢false (sym runs_on ∙ needed-is service tei (after c e l) next_timed timer ∙ ap (λ (y : Link). runs timer y.running) x.is))

    -- where it does not run afterwards, it is not started
    never-started : was ≡ true → is_needed its (after c e l) ≡ false → obeyed its false (orders_in a) ≡ false
    never-started ran off = go (event-goes c e l service tei s)
      where
        go : Goes c service tei e l (after c e l) a → obeyed its false (orders_in a) ≡ false
        go (inl x) = none-starts x
        go (inr (inr x)) = ap (obeyed its false) x.orders ∙ starts-by own.running None None
        go (inr (inl x)) =
            ap (obeyed its false) x.orders ∙ starts-by own.running (course t x.event own).started (course t x.event own).link.running
            ∙ ap (λ b. runs timer (course t x.event own).started && b)
            (ap (λ (y : Link). runs timer y.running) (sym x.is) ∙ sym (needed-is service tei (after c e l) next_timed timer) ∙ off)
            ∙ and-false (runs timer (course t x.event own).started)

    abbrev IsStarted : Bool → Type 0
    IsStarted ran = obeyed its false (orders_in a) ≡ (obeyed its ran (orders_in a) && (not ran || is_due))

    pub event-started : IsStarted was
    event-started = grind (arith, and-true, obeyed, never-started, followed, started)

  -- What is ordered of the timers of the link: one is started as its orders start it, and stopped where it runs no more.
  rebuild : (its : Timer) (p q r p' q' r' : Bool) → p ≡ p' → q ≡ q' → r ≡ r' → order_by p q r its ≡ order_by p' q' r' its
  rebuild its p q r p' q' r' starts ran runs = grind (arith, order_by)

  exact : Goes c service tei e l (after c e l) a → (started : Option LinkTimer) × (its_orders service tei (orders_in a) ≡ orders_for t own.running started new.running)
  exact (inl x) = (None, x.orders)
  exact (inr (inl x)) =
      let k = course t x.event own in
      (k.started, ap (its_orders service tei) x.orders ∙ own-ordered t own.running k.started k.link.running ∙ ap (λ (y : Link). orders_for t own.running k.started y.running) (sym x.is))
  exact (inr (inr x)) = grind (arith, its_orders, own-ordered)

  abbrev ordered_of : LinkTimer → List Order
  ordered_of timer =
      let its = timer_of service tei timer in order_by (obeyed its false (orders_in a)) (is_needed its l) (is_needed its (after c e l)) its

  pub event-ordered : its_orders service tei (orders_in a) ≡ ordered_of T200 ++ ordered_of T203
  event-ordered =
      x.1 ∙ ap (λ xs. xs ++ order_for t T203 own.running x.0 new.running) (one T200 (TimerT200 service tei) refl)
      ∙ ap (λ xs. ordered_of T200 ++ xs) (one T203 (TimerT203 service tei) refl)
    where
      x : (started : Option LinkTimer) × (its_orders service tei (orders_in a) ≡ orders_for t own.running started new.running)
      x = exact (event-goes c e l service tei s)

      one : (timer : LinkTimer) (its : Timer) → timer_of service tei timer ≡ its
          → order_by (runs timer x.0 && runs timer new.running) (runs timer own.running) (runs timer new.running) its
          ≡ order_by (obeyed (timer_of service tei timer) false (orders_in a)) (is_needed (timer_of service tei timer) l) (is_needed (timer_of service tei timer) (after c e l)) its
      one timer its is =
          rebuild its _ _ _ _ _ _
          (sym (obeys-its service tei timer false (orders_in a) ∙ ap (obeyed (timer_of service tei timer) false) x.1 ∙ starts-by timer own.running x.0 new.running))
          (sym (needed-is service tei l timed timer)) (sym (needed-is service tei (after c e l) next_timed timer))
