-- Whatever happens to a timed card, each timer of a link that runs falls due, and is overdue by no more.
use Rattle.laws_time.proofs.Vocabulary.{All, AreAtLines, ArePrompt as TimedArePrompt, Bool, Clock, Config, Event, Expiry, IsInRange, IsInTime, Lengths, LinkTimer, List, Managed, Moment, None, Observed, Option, Service, Some, Step, T200, T203, TimedCard, View, [], after_all as timed_after_all, and_parts, ap, append-nil, append_assoc, arith, at, at_moment, awaits, by_t200, cond}
use Rattle.laws_time.proofs.Vocabulary.{drop, due, duration, enquires, eqb-true, event_of, events_of, expiry, falls_due, false, frames_after_all as card_after_all, in_state, is_anew, is_of, is_on, is_same, is_terminal, moments, not, nothing_due, option_map, option_map_or, option_to_list, orders_in, own-is, refl, runs, step_happens as happens, subst, sym, time, timed_events_of, timer_of, true}
use Rattle.laws_time.proofs.Vocabulary.{Timer, and-false, inl, inr, is_timer_of, true≢false, view_behind, view_of, views, without_first, ℕ, ◌&&◌, ◌++◌, ◌+◌, ◌<◌, ◌==◌, ◌∙◌, ◌∷◌, ◌≡◌, ◌≤◌}
use Rattle.lapd_frame.specs.declared.timers.Timer.TheVariants as timers
use Rattle.model_line.specs.Event as line_event
use Rattle.model_card.specs.Card as cards
use Rattle.model_card.specs.Machine.{answer}
use Rattle.laws_line.proofs.OfCard.Wherever.{config-stays}
use Rattle.laws_trace.proofs.ObservedExpiries.{t200-enters, enquired}
use Rattle.model_timed.specs.Frames.{fresh, after, after_all, ArePrompt}
use Rattle.laws_time.proofs.TimedFrames.{with_event, expiry_of, with_expiry as timed_expiry, IsPrompt}
use Rattle.laws_time.proofs.Links.{view-then, there, stays-on}
use Rattle.laws_time.proofs.Moments.{IsOf, at-lines, now-stays, same, elsewhere, differs, each-timer}
use Rattle.laws_time.proofs.Walk.{Stands, Holds, IsDue, seen, stands-then, step}
use Rattle.laws_time.proofs.Falls.{in-time, dropped, first-all, on-lines}

-- An event at another line: a link stays, or its TEI is not on the line.
none-runs : (timer : LinkTimer) → runs timer (in_state 1) ≡ false
none-runs timer = grind arith

pub views-elsewhere : (c : Config) (service : Service) (tei number : ℕ) (v : View) (m : Rattle.model_card.specs.Run.Moment) → (m.event.line == number) ≡ false
    → (views c service tei number v m).link ≡ cond (not (is_on tei v.teis)) (in_state 1) v.link
views-elsewhere c service tei number v m other = grind arith

runs-elsewhere : (timer : LinkTimer) (b : Bool) (o q : Observed) → q ≡ cond b (in_state 1) o → runs timer q ≡ true → runs timer o ≡ true
runs-elsewhere timer b o q h1z h2z = grind (arith, none-runs)

on-by : (tei : ℕ) (b there : Bool) (w : Managed) → is_on tei w ≡ true → is_on tei (cond b (cond there (nothing_due w) (nothing_due w)) w) ≡ true
on-by tei b there w h1z = grind arith

module _ (c : Config) (number : ℕ) (ranged : IsInRange c) (within : number < c.lines) (service : Service) (tei : ℕ) where
  -- What the expiry of a timer that runs leads to.
  module _ (events : List Event) (all : AreAtLines (cards.fresh c) events) where
    abbrev o : Observed
    o = (view_of c service tei number events).link

    abbrev behind : LinkTimer → Observed
    behind timer = (view_behind c service tei number events (expiry (timer_of service tei timer))).link

    pub t200-leads : is_on tei (view_of c service tei number events).teis ≡ true → behind T200 ≡ by_t200 c o
    t200-leads on =
        stays-on c events number ranged all within service tei (expiry (timers.T200 service tei)) on (on-by tei (number == number) (is_terminal c) (view_of c service tei number events).teis on)
        ∙ ap (λ b. cond b (by_t200 c o) o) (own-is service tei)

    pub t203-leads : is_on tei (view_of c service tei number events).teis ≡ true → behind T203 ≡ cond (o.state == 7 && not (awaits o)) (enquires 0 o) o
    t203-leads on =
        stays-on c events number ranged all within service tei (expiry (timers.T203 service tei)) on (on-by tei (number == number) (is_terminal c) (view_of c service tei number events).teis on)
        ∙ ap (λ b. cond (b && (o.state == 7 && not (awaits o))) (enquires 0 o) o) (own-is service tei)

    -- It starts one anew.
    pub expired-anew : (timer : LinkTimer) → runs timer o ≡ true → is_anew c service tei timer o (behind timer) (expiry (timer_of service tei timer)) ≡ true
    expired-anew h run = grind (arith, is_anew, t200-leads, there, t200-enters, t203-leads, cond, enquires, enquired, eqb-true, and_parts, not, awaits)

module _ (c : Config) (lengths : Lengths) (late number : ℕ) (ranged : IsInRange c) (within : number < c.lines) (service : Service) (tei : ℕ) where
  abbrev Fresh : LinkTimer → Clock → ℕ → Type 0
  Fresh timer clock m = m ≤ clock.now + duration lengths (timer_of service tei timer)

  abbrev HoldsNow : LinkTimer → List Event → Clock → Type 0
  HoldsNow timer events clock = Holds c lengths late number ranged within service tei timer events clock (Fresh timer clock)

  pub record Goes (events : List Event) (t : TimedCard) : Type 0 where
    pub stands : Stands c lengths late number ranged within service tei events t
    pub lines : All (λ (e : Expiry). e.line < c.lines) t.clock.running
    pub timers_are : (timer : LinkTimer) → HoldsNow timer events t.clock

  -- An event, from a clock in which the timers are held but the one that expires.
  module _ (events : List Event) (t : TimedCard) (s : Stands c lengths late number ranged within service tei events t) where
    own-line : (what : line_event.Event) (timer : LinkTimer)
        → (runs timer (seen c lengths late number ranged within service tei events) ≡ true → is_anew c service tei timer (seen c lengths late number ranged within service tei events) (view_behind c service tei number events what).link what ≡ false
        → IsDue c lengths late number ranged within service tei timer t.clock (Fresh timer t.clock))
        → HoldsNow timer (events ++ at number what ∷ []) (with_event (at number what) t).clock
    own-line what timer kept =
        step c lengths late number ranged within service tei events t s what timer (Fresh timer t.clock) (Fresh timer (with_event (at number what) t).clock) kept
        (λ run m overdue before. omega (arith, before, now-stays)) (λ is run. omega (arith, now-stays))

    pub other-line : (P : ℕ → Type 0) (e : Event) (timer : LinkTimer) → (e.line == number) ≡ false → Holds c lengths late number ranged within service tei timer events t.clock P
        → Holds c lengths late number ranged within service tei timer (events ++ e ∷ []) (with_event e t).clock P
    other-line P e timer other h run =
        let v = view_of c service tei number events in
        let m : Moment = record { card = Rattle.model_card.specs.Run.after_all (cards.fresh c) events; event = e; answer = answer e (Rattle.model_card.specs.Run.after_all (cards.fresh c) events) } in
        let is = ap (λ (v : View). v.link) (view-then c service tei number events e) ∙ views-elsewhere c service tei number v m other in
        let d = h (runs-elsewhere timer (not (is_on tei v.teis)) v.link (view_of c service tei number (events ++ e ∷ [])).link is run) in (
          d.0,
          elsewhere number e.line (timer_of service tei timer) t.clock (orders_in (answer e t.card)) other ∙ d.1,
          subst (λ n. n ≤ d.0 + late) (sym (now-stays e.line t.clock (orders_in (answer e t.card)))) d.2,
          d.3,
        )

    other-now : (e : Event) (timer : LinkTimer) → (e.line == number) ≡ false → HoldsNow timer events t.clock → HoldsNow timer (events ++ e ∷ []) (with_event e t).clock
    other-now e timer other h run = let d = other-line (Fresh timer t.clock) e timer other h run in (d.0, d.1, d.2, omega (arith, d.3, now-stays))

    abbrev Kept : Event → LinkTimer → Type 0
    Kept e timer =
        let o = seen c lengths late number ranged within service tei events in
        runs timer o ≡ true → is_anew c service tei timer o (view_behind c service tei number events e.what).link e.what ≡ false
        → IsDue c lengths late number ranged within service tei timer t.clock (Fresh timer t.clock)

    pub event-now : (e : Event) (timer : LinkTimer) → ((e.line == number) ≡ false → HoldsNow timer events t.clock) → ((e.line == number) ≡ true → Kept e timer)
        → HoldsNow timer (events ++ e ∷ []) (with_event e t).clock
    event-now e timer apart kept =
        at-lines number (λ e. HoldsNow timer (events ++ e ∷ []) (with_event e t).clock) e (λ other. other-now e timer other (apart other)) (λ here. own-line e.what timer (kept here))

  -- Whatever happens.
  pub happened : (events : List Event) (t : TimedCard) (e : Event) → Goes events t → e.line < c.lines → Goes (events ++ e ∷ []) (with_event e t)
  happened events t e g here = record {
    stands = stands-then c lengths late number ranged within service tei events t e g.stands here;
    lines = on-lines c.lines e.line t.clock (orders_in (answer e t.card)) here g.lines;
    timers_are = λ timer. event-now events t g.stands e timer (λ other. g.timers_are timer) (λ own run same. g.timers_are timer run);
  }

  pub timed : (events : List Event) (t : TimedCard) (moment : ℕ) → Goes events t → t.clock.now ≤ moment → All (IsInTime late moment) t.clock.running
      → Goes events (record t { clock = at_moment moment t.clock })
  timed events t moment g later prompt = record {
    stands = record { card = g.stands.card; all = g.stands.all; lengths_are = g.stands.lengths_are };
    lines = g.lines;
    timers_are = λ timer run. let d = g.timers_are timer run in
        (d.0, d.1, in-time late moment number (timer_of service tei timer) t.clock.running d.0 prompt d.1, omega (arith, d.3, later));
  }

  -- The timer that falls due is no more in the clock; the others are.
  abbrev pub Stays : TimedCard → LinkTimer → Type 1
  Stays t timer = (P : ℕ → Type 0) → IsDue c lengths late number ranged within service tei timer t.clock P → IsDue c lengths late number ranged within service tei timer (without_first t.clock) P

  drops : (t : TimedCard) (x : Expiry) → due t.clock ≡ Some x → (timer : LinkTimer) → is_of number (timer_of service tei timer) x ≡ false → Stays t timer
  drops t x is timer other P d = (d.0, dropped number (timer_of service tei timer) x t.clock.running t.clock.now is other ∙ d.1, d.2, d.3)

  -- It is of another line, or of no link of the TEI, or T200, or T203.
  pub each-fall : (T : Event → Type 0) (t : TimedCard) (x : Expiry) → due t.clock ≡ Some x → (((timer : LinkTimer) → Stays t timer) → (x.line == number) ≡ false → T (expiry_of x))
      → (((timer : LinkTimer) → Stays t timer) → (timer : Timer) → is_timer_of service tei timer ≡ false → T (at number (expiry timer)))
      → (Stays t T203 → (x.line == number) ≡ true → x.timer ≡ timers.T200 service tei → T (at number (expiry (timers.T200 service tei))))
      → (Stays t T200 → T (at number (expiry (timers.T203 service tei)))) → T (expiry_of x)
  each-fall T t x is apart foreign own_200 own_203 =
      at-lines number T (expiry_of x) (λ other. apart (λ timer. drops t x is timer (ap (λ b. b && is_same x.timer (timer_of service tei timer)) other)) other)
      (λ own. each-timer service tei (λ timer. x.timer ≡ timer → T (at number (expiry timer)))
      (λ timer none same. foreign (λ k. drops t x is k (not-its (timer_of service tei k) timer same (differs service tei timer (timer_of service tei k) (its k) none))) timer none)
      (λ same. own_200 (drops t x is T203 (not-its (timers.T203 service tei) (timers.T200 service tei) same refl)) own same)
      (λ same. own_203 (drops t x is T200 (not-its (timers.T200 service tei) (timers.T203 service tei) same refl))) x.timer refl)
    where
      not-its : (its timer : Timer) → x.timer ≡ timer → is_same timer its ≡ false → is_of number its x ≡ false
      not-its its timer same other = ap (λ b. (x.line == number) && b) (ap (λ timer. is_same timer its) same ∙ other) ∙ and-false (x.line == number)

      its : (k : LinkTimer) → IsOf service tei (timer_of service tei k)
      its T200 = inl refl
      its T203 = inr refl

  pub fell : (events : List Event) (t : TimedCard) (x : Expiry) → Goes events t → due t.clock ≡ Some x → Goes (events ++ expiry_of x ∷ []) (with_event (expiry_of x) (record t { clock = without_first t.clock }))
  fell events t x g is = record {
    stands = stands-then c lengths late number ranged within service tei events u (expiry_of x) based here;
    lines = on-lines c.lines x.line u.clock (orders_in (answer (expiry_of x) u.card)) here all.1;
    timers_are = λ timer. event-now events u based (expiry_of x) timer
        (λ other run. drops t x is timer (ap (λ b. b && is_same x.timer (timer_of service tei timer)) other) (Fresh timer t.clock) (g.timers_are timer run))
        (λ own. kept timer own (is_same x.timer (timer_of service tei timer)) refl);
  }
    where
      u : TimedCard
      u = record t { clock = without_first t.clock }

      all : (x.line < c.lines) × All (λ (e : Expiry). e.line < c.lines) (drop 1 t.clock.running)
      all = first-all (λ (e : Expiry). e.line < c.lines) x t.clock.running t.clock.now is g.lines

      here : x.line < c.lines
      here = (first-all (λ (e : Expiry). e.line < c.lines) x t.clock.running t.clock.now is g.lines).0

      based : Stands c lengths late number ranged within service tei events u
      based = record { card = g.stands.card; all = g.stands.all; lengths_are = g.stands.lengths_are }

      kept : (timer : LinkTimer) → (x.line == number) ≡ true → (b : Bool) → is_same x.timer (timer_of service tei timer) ≡ b → Kept events u based (expiry_of x) timer
      kept timer own false other run anew = drops t x is timer (ap (λ b. (x.line == number) && b) other ∙ ap (λ b. b && false) own) (Fresh timer t.clock) (g.timers_are timer run)
      kept timer own true mine run anew =
          absurd (true≢false (sym (subst (λ its. is_anew c service tei timer (view_of c service tei number events).link (view_behind c service tei number events (expiry its)).link (expiry its) ≡ true)
          (sym (same x.timer (timer_of service tei timer) mine)) (expired-anew c number ranged within service tei events g.stands.all timer run)) ∙ anew))

  pub step-goes : (events : List Event) (t : TimedCard) (d : Step Event) → Goes events t → IsPrompt late d t → Goes (events ++ option_to_list (event_of d t)) (after d t)
  step-goes events t (happens e) g prompt = happened events t e g (subst (λ (d : Config). e.line < d.lines) (ap (λ (m : cards.Card). m.config) g.stands.card ∙ config-stays (cards.fresh c) events) prompt.0)
  step-goes events t (time moment) g prompt = subst (λ es. Goes es (record t { clock = at_moment moment t.clock })) (sym (append-nil events)) (timed events t moment g prompt.0 prompt.1)
  step-goes events t falls_due g prompt = go (due t.clock) refl
    where
      go : (o : Option Expiry) → due t.clock ≡ o → Goes (events ++ option_to_list (option_map expiry_of o)) (option_map_or (timed_expiry t) o t)
      go None is = subst (λ es. Goes es t) (sym (append-nil events)) g
      go (Some x) is = fell events t x g is

  pub before-goes : (events : List Event) (t : TimedCard) (steps : List (Step Event)) → Goes events t → ArePrompt late steps t → Goes (events ++ events_of steps t) (after_all steps t)
  unfolding timed_after_all timed_events_of TimedArePrompt
  before-goes events t [] g prompt = subst (λ es. Goes es t) (sym (append-nil events)) g
  before-goes events t (d ∷ steps) g prompt =
      subst (λ es. Goes es (after_all steps (after d t))) (append_assoc events (option_to_list (event_of d t)) (events_of steps (after d t)))
      (before-goes (events ++ option_to_list (event_of d t)) (after d t) steps (step-goes events t d g prompt.0) prompt.1)

  pub begins : Goes [] (fresh c lengths)
  unfolding moments card_after_all
  begins = grind arith
