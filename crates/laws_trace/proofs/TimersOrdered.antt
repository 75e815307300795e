-- What is ordered of the timers of a link is what is due: the law.
use Rattle.laws_trace.proofs.Vocabulary.{arith, ◌≡◌, ℕ, ◌+◌, ◌<◌, ◌==◌, ◌&&◌, ◌||◌, not, Bool, true, false, cond, List, [], ◌∷◌, ◌++◌, refl, sym, ap, ◌∙◌, subst, ⊎_elim, eq-eqb, true≢false, and_parts, is_some, fold, fold-append, nat_lt, All-nil, All-cons, All-append, Service, Order, Timer, LinkTimer, obeyed, Config, hears, expiry, request, next, orders_in, IsInRange, timer_of, is_needed}
use Rattle.laws_trace.proofs.Vocabulary.{left_by}
use Rattle.laws_trace.proofs.Vocabulary.{Card, line_at, at, moments, runs_at_callers, eqb-true, T200, T203, fresh, CardEvent as Event, after, Moment, after_all, IsAtLine, AreAtLines, runs_then, one_more, Managed, managing_is_on as is_on, due, brings, Observed, View, in_state, anew, awaits, enquires, enters, by_t200, by_event, view_of, moment_of, view_behind, TimersAreTimely, is_own, Always}
use Rattle.laws_trace.proofs.Vocabulary.{list_any, or-false, T201, TimerT203, TimerT200, after_all-append}
use Rattle.lapd_frame.specs.declared.timers.Timer.TheVariants.{T202}
use Rattle.model_line.specs.Event as line_event
use Rattle.laws_trace.specs.Observer.{counted, may_repeat}
use Rattle.laws_trace.specs.TimersAreTimely as timely
use Rattle.laws_trace.proofs.ObservedControls.{none-due}
use Rattle.laws_trace.proofs.ObservedExpiries.{IsNoMore, same, zero, either, no-more, enquired, t200-enters}
use Rattle.laws_trace.proofs.ObservedLaws.{known-now, on-line-now, timers-run-so, started-so, moved_or_renewed}
use Rattle.laws_trace.proofs.OrdersOfLink.{order_by}
use Rattle.laws_trace.proofs.TimersAreTimely.{config-now, sound-now, timely-now, true-now, callers-run, own-ordered}
use Rattle.laws_trace.proofs.Drained.{moments-both}
use Rattle.laws_trace.proofs.Facts.{not-so}

-- Whether a timer is started, by whether it ran, the link moves, T200 was counted, or a frame starts it anew.
plain : (w d x r : Bool) → x ≡ false → (not w || (d || r)) ≡ (not w || ((d || x) || r))
plain w d x r none = ap (λ b. not w || (b || r)) (sym (or-false d)) ∙ ap (λ x. not w || ((d || x) || r)) (sym none)

ended : (w d x r : Bool) → (w ≡ true → (d || x) ≡ true) → true ≡ (not w || ((d || x) || r))
ended w d x r leads = grind arith

module _ (c : Config) (events : List Event) (number : ℕ) (ranged : IsInRange c) (all : AreAtLines (fresh c) events) (within : number < c.lines) (service : Service) (tei : ℕ) (what : line_event.Event) where
  abbrev card : Card
  card = after_all (fresh c) events

  abbrev m : Moment
  m = moment_of c events number what

  abbrev v : View
  v = view_of c service tei number events

  abbrev o : Observed
  o = (view_of c service tei number events).link

  abbrev q : Observed
  q = (view_behind c service tei number events what).link

  abbrev longer : List Event
  longer = events ++ at number what ∷ []

  all-then : AreAtLines (fresh c) longer
  all-then = All-append (IsAtLine (fresh c)) events (at number what ∷ []) all (All-cons (IsAtLine (fresh c)) (at number what) [] within (All-nil (IsAtLine (fresh c))))

  line-then : line_at number (after_all (fresh c) longer) ≡ line_at number (after (at number what) card)
  unfolding after_all
  line-then = ap (line_at number) (after_all-append (fresh c) events (at number what ∷ []))

  view-then : view_of c service tei number longer ≡ view_behind c service tei number events what
  unfolding moments
  view-then = grind (arith, moments-both, fold-append)

  -- Which of its timers run at a caller's, before and then.
  its-run : (timer : LinkTimer) → runs_at_callers number (timer_of service tei timer) false (moments (fresh c) events) ≡ timely.runs timer o
  its-run T200 = (timers-run-so c events number ranged all within service tei).0
  its-run T203 = (timers-run-so c events number ranged all within service tei).1

  its-run-then : (timer : LinkTimer) → runs_at_callers number (timer_of service tei timer) false (moments (fresh c) longer) ≡ timely.runs timer q
  its-run-then T200 = (timers-run-so c longer number ranged all-then within service tei).0 ∙ ap (λ (v : View). timely.runs T200 v.link) view-then
  its-run-then T203 = (timers-run-so c longer number ranged all-then within service tei).1 ∙ ap (λ (v : View). timely.runs T203 v.link) view-then

  module _ (timer : LinkTimer) where
    abbrev its : Timer
    its = timer_of service tei timer

    abbrev ran : Bool
    ran = runs_at_callers number its false (moments (fresh c) events)

    needs-then : is_needed its (line_at number (after (at number what) card)) ≡ timely.runs timer q
    needs-then = ap (is_needed its) (sym line-then) ∙ sym (callers-run c longer number ranged all-then within service tei timer) ∙ its-run-then timer

    obeys-then : obeyed its (left_by what its ran) (orders_in m.answer) ≡ timely.runs timer q
    unfolding moments
    obeys-then =
        sym (ap (fold (one_more number its) false) (moments-both (fresh c) events (at number what ∷ []))
        ∙ fold-append (one_more number its) false (moments (fresh c) events) (m ∷ [])
        ∙ ap (λ b. cond b (runs_then its ran what m.answer) ran) (eq-eqb number number refl)) ∙ its-run-then timer

  -- What is known then, where the event is one of the link.
  abbrev then-on : Bool
  then-on = is_on tei (view_behind c service tei number events what).teis

  no-rise : IsNoMore o (by_event c service tei what m.answer o) → IsNoMore o q
  no-rise h =
      either o (not then-on) (in_state 1) (cond (is_on tei v.teis) (cond (number == number) (by_event c service tei what m.answer o) o) (in_state 4)) (zero o)
      (either o (is_on tei v.teis) (cond (number == number) (by_event c service tei what m.answer o) o) (in_state 4)
      (either o (number == number) (by_event c service tei what m.answer o) o h (same o)) (zero o))

  -- a timer runs only of a TEI on the line
  there : (timer : LinkTimer) → timely.runs timer o ≡ true → is_on tei v.teis ≡ true
  there timer runs =
      ⊎_elim (λ y. absurd (true≢false (sym runs ∙ ap (timely.runs timer) y.2 ∙ (grind arith))))
      (λ y. on-line-now c events number ranged all within service tei ∙ ap is_some y.1) (known-now c events number ranged all within service tei)

-- Whether one is started, by the event.
module _ (c : Config) (events : List Event) (number : ℕ) (ranged : IsInRange c) (all : AreAtLines (fresh c) events) (within : number < c.lines) (service : Service) (tei : ℕ) where
  abbrev Due : LinkTimer → line_event.Event → Type 0
  Due timer what =
      let o = (view_of c service tei number events).link in
      let q = (view_behind c service tei number events what).link in
      (not (left_by what (timer_of service tei timer) (timely.runs timer o)) || moved_or_renewed c service tei timer o q what)
      ≡ (not (timely.runs timer o) || timely.is_anew c service tei timer o q what)

  abbrev was : Observed
  was = (view_of c service tei number events).link

  by-plain : (timer : LinkTimer) (what : line_event.Event) → IsNoMore was (view_behind c service tei number events what).link
      → let q = (view_behind c service tei number events what).link in
      (not (timely.runs timer was) || moved_or_renewed c service tei timer was q what) ≡ (not (timely.runs timer was) || timely.is_anew c service tei timer was q what)
  by-plain timer what none = grind (arith, plain)

  abbrev then_of : line_event.Event → Observed
  then_of what = (view_behind c service tei number events what).link

  -- what a timer that ran leads to as one of the link expires
  on-then : (timer : LinkTimer) (what : line_event.Event) → ((w : Managed) → is_on tei (due c what w) ≡ is_on tei w) → timely.runs timer was ≡ true
      → then_of what ≡ by_event c service tei what (moment_of c events number what).answer was
  on-then timer what keeps runs = grind (arith, there, eq-eqb)

  abbrev renewed : LinkTimer → line_event.Event → Bool
  renewed timer what = was.state == 7 && brings (timely.renews timer was.acknowledged was.busy) c service tei what

  -- an expiry of a timer of a link takes no TEI off the line
  none-ends : (of : Service) (by : ℕ) (w : Managed) → is_on tei (due c (expiry (TimerT200 of by)) w) ≡ is_on tei w
  none-ends of by w = ap (list_any (λ on. on == tei)) (none-due c w)

  -- T200 that expires is counted, or the link leads on.
  other-t200 : (of : Service) (by : ℕ) → is_own service tei of by ≡ false → IsNoMore was (then_of (expiry (TimerT200 of by)))
  other-t200 of by other =
      no-rise c events number ranged all within service tei (expiry (TimerT200 of by))
      (subst (λ b. IsNoMore was (cond b (by_t200 c was) was)) (sym other) (same was))

  t200-of : (of : Service) (by : ℕ) (b : Bool) → is_own service tei of by ≡ b → Due T200 (expiry (TimerT200 of by))
  t200-of of by false other =
      let what = expiry (TimerT200 of by) in
      ap (λ b. not (cond b false (awaits was)) || moved_or_renewed c service tei T200 was (then_of what) what) other ∙ by-plain T200 what (other-t200 of by other)
  t200-of of by true own =
      let what = expiry (TimerT200 of by) in
      ap (λ b. not (cond b false (awaits was)) || moved_or_renewed c service tei T200 was (then_of what) what) own
      ∙ ended (awaits was) (not (was.state == (then_of what).state)) (nat_lt was.expiries (then_of what).expiries) (renewed T200 what)
      (λ waits. ap (enters was) (on-then T200 what (none-ends of by) waits ∙ ap (λ b. cond b (by_t200 c was) was) own) ∙ t200-enters was c waits)

  -- T203 that expires leads on.
  not-t200 : (what : line_event.Event) (timer : LinkTimer) → ((of : Service) (by : ℕ) → what ≡ expiry (TimerT200 of by) → ⊥) → IsNoMore was (then_of what)
  not-t200 what timer never = grind (arith, no-rise, no-more)

  t203-of : (of : Service) (by : ℕ) (b : Bool) → is_own service tei of by ≡ b → Due T203 (expiry (TimerT203 of by))
  t203-of of by false other =
      let what = expiry (TimerT203 of by) in
      ap (λ b. not (cond b false (timely.runs T203 was)) || moved_or_renewed c service tei T203 was (then_of what) what) other
      ∙ by-plain T203 what (not-t200 what T203 (λ of by is. cc is))
  t203-of of by true own =
      let what = expiry (TimerT203 of by) in
      let runs_on : Bool = timely.runs T203 was in
      ap (λ b. not (cond b false runs_on) || moved_or_renewed c service tei T203 was (then_of what) what) own
      ∙ ended runs_on (not (was.state == (then_of what).state)) (nat_lt was.expiries (then_of what).expiries) (renewed T203 what)
      (λ runs.
      ap (enters was) (on-then T203 what (λ w. ap (list_any (λ on. on == tei)) (none-due c w)) runs ∙ ap (λ b. cond (b && runs_on) (enquires 0 was) was) own ∙ ap (λ b. cond b (enquires 0 was) was) runs)
      ∙ enquired was 0 (eqb-true was.state 7 (and_parts (was.state == 7) (not (awaits was)) runs).0))

  -- While T203 runs an expiry of T200 does nothing.
  idle-then : (of : Service) (by : ℕ) → is_own service tei of by ≡ true → timely.runs T203 was ≡ true → then_of (expiry (TimerT200 of by)) ≡ was
  idle-then of by own runs =
      let parts = and_parts (was.state == 7) (not (awaits was)) runs in
      let last = cond (may_repeat c was) (record was { expiries = was.expiries + 1 }) (cond (was.state == 8) (anew was) (in_state 4)) in
      on-then T203 (expiry (TimerT200 of by)) (none-ends of by) runs ∙ ap (λ b. cond b (by_t200 c was) was) own
      ∙ ap (λ b. cond b (cond (awaits was) (enquires (counted c) was) was) (cond (not (awaits was)) was last)) parts.0
      ∙ ap (λ b. cond b (enquires (counted c) was) was) (not-so (awaits was) parts.1)

  t203-by-t200 : (of : Service) (by : ℕ) (b : Bool) → is_own service tei of by ≡ b → Due T203 (expiry (TimerT200 of by))
  t203-by-t200 of by false other = by-plain T203 (expiry (TimerT200 of by)) (other-t200 of by other)
  t203-by-t200 of by true own = go (timely.runs T203 was) refl
    where
      go : (w : Bool) → timely.runs T203 was ≡ w → Due T203 (expiry (TimerT200 of by))
      go true runs = by-plain T203 (expiry (TimerT200 of by)) (subst (IsNoMore was) (sym (idle-then of by own runs)) (same was))
      go false rests = grind (arith, moved_or_renewed)

  due-so : (timer : LinkTimer) (what : line_event.Event) → Due timer what
  due-so timer (hears e) = by-plain timer (hears e) (not-t200 (hears e) timer (λ of by is. cc is))
  due-so timer (request r) = by-plain timer (request r) (not-t200 (request r) timer (λ of by is. cc is))
  due-so timer next = by-plain timer next (not-t200 next timer (λ of by is. cc is))
  due-so T200 (expiry T201) = by-plain T200 (expiry T201) (not-t200 (expiry T201) T200 (λ of by is. cc is))
  due-so T203 (expiry T201) = by-plain T203 (expiry T201) (not-t200 (expiry T201) T203 (λ of by is. cc is))
  due-so T200 (expiry T202) = by-plain T200 (expiry T202) (not-t200 (expiry T202) T200 (λ of by is. cc is))
  due-so T203 (expiry T202) = by-plain T203 (expiry T202) (not-t200 (expiry T202) T203 (λ of by is. cc is))
  due-so T200 (expiry (TimerT200 of by)) = t200-of of by (is_own service tei of by) refl
  due-so T203 (expiry (TimerT200 of by)) = t203-by-t200 of by (is_own service tei of by) refl
  due-so T200 (expiry (TimerT203 of by)) = by-plain T200 (expiry (TimerT203 of by)) (not-t200 (expiry (TimerT203 of by)) T200 (λ of by is. cc is))
  due-so T203 (expiry (TimerT203 of by)) = t203-of of by (is_own service tei of by) refl

  -- So what is ordered of one is what is due.
  module _ (what : line_event.Event) (timer : LinkTimer) where
    abbrev its_timer : Timer
    its_timer = timer_of service tei timer

    abbrev now : Observed
    now = (view_behind c service tei number events what).link

    abbrev due_of : Bool
    due_of = timely.runs timer now && (not (timely.runs timer was) || timely.is_anew c service tei timer was now what)

    ordered : order_by (obeyed its_timer false (orders_in (moment_of c events number what).answer)) (is_needed its_timer (line_at number (after_all (fresh c) events)))
        (is_needed its_timer (line_at number (after (at number what) (after_all (fresh c) events)))) its_timer
        ≡ order_by due_of (timely.runs timer was) (timely.runs timer now) its_timer
    ordered = grind (arith, order_by, started-so, obeys-then, its-run, due-so, callers-run, needs-then)

pub timers-are-timely : Always TimersAreTimely
timers-are-timely c events number ranged all within service tei what =
    let card = after_all (fresh c) events in
    let here : number < card.config.lines = subst (λ (c : Config). number < c.lines) (sym (config-now c events number ranged all within service tei)) within in
    let by : LinkTimer → List Order =
    λ timer. let its = timer_of service tei timer in
    order_by (obeyed its false (orders_in ((moment_of c events number what).answer))) (is_needed its (line_at number card)) (is_needed its (line_at number (after (at number what) card))) its in
    own-ordered service tei number card (sound-now c events number ranged all within service tei) (timely-now c events number ranged all within service tei) (at number what) here _
    (true-now c events number ranged all within service tei)
    ∙ ap (λ xs. xs ++ by T203) (ordered c events number ranged all within service tei what T200)
    ∙ ap (λ xs. timely.order_due c service tei (view_of c service tei number events).link (view_behind c service tei number events what).link what T200 (TimerT200 service tei) ++ xs)
    (ordered c events number ranged all within service tei what T203)
