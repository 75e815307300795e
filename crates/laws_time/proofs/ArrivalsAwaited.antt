-- No answer is awaited longer than T200 may run out.
use Rattle.laws_time.proofs.Vocabulary.{Answer, ArePrompt as TimedArePrompt, Bool, Clock, Config, Event, Expiry, IsInRange, Lengths, List, NoAnswerIsAwaitedLonger, None, Observed, Option, Parts, Service, Some, StaysIn, Step, T200, TimedCard, View, [], after_all as timed_after_all, anew, ap, append-nil, append_assoc, arith, at, at_moment, by_event, by_frame, by-bool, Moment}
use Rattle.laws_time.proofs.Vocabulary.{by_t200, cond, due, eqb-true, event_of, events_of, expiry, falls_due, false, is_anew, is_on, is_some, is_waiting, ltb-true, may_repeat, moment_at as moment_of, nat_le, not, of_frames, option_map, option_map_or, option_to_list, refl, runs, state, step_happens as happens, subst, sym, time, timed_events_of, true, true≢false}
use Rattle.laws_time.proofs.Vocabulary.{view_behind, view_of, without_first, ℕ, ◌&&◌, ◌*◌, ◌++◌, ◌+◌, ◌-◌, ◌<◌, ◌==◌, ◌||◌, ◌∙◌, ◌∷◌, ◌≡◌, ◌≤◌}
use Rattle.lapd_frame.specs.declared.timers.Timer.TheVariants as timers
use Rattle.model_line.specs.Event as line_event
use Rattle.model_line.specs.Line.{repeats_in, tries}
use Rattle.model_card.specs.Card as cards
use Rattle.model_card.specs.Machine.{answer}
use Rattle.model_card.specs.Run as runs_of
use Rattle.model_timed.specs.Frames.{fresh, after, after_all, ArePrompt}
use Rattle.laws_time.proofs.TimedFrames.{with_event, expiry_of, with_expiry as timed_expiry, IsPrompt}
use Rattle.laws_time.proofs.Links.{view-then, on-where, state-is, elsewhere, stays-on}
use Rattle.laws_time.proofs.Moments.{at-lines, foreign-t200, is_own_t200}
use Rattle.laws_time.proofs.Walk.{Stands, Holds, seen, step, q-is}
use Rattle.laws_time.proofs.ArrivalsOneEvent.{no-expiry}
use Rattle.laws_time.proofs.Falls.{in-time}
use Rattle.laws_time.proofs.Before.{Goes, Stays, other-line, step-goes, each-fall, before-goes, begins, t200-leads, expired-anew}
use Rattle.laws_time.proofs.Silent.{left-in-all}
use Rattle.laws_time.proofs.OfCircuit.Orders.{awaits-in, not-anew}
use Rattle.laws_time.proofs.Effects.{sent-like}

-- A frame that is heard.
framed-same : (c : Config) (o : Observed) (f : Parts) → is_waiting o.state ≡ true → (by_frame c o f).state ≡ o.state → (by_frame c o f).expiries ≡ o.expiries
framed-same c o f waits = grind arith

heard-count : (c : Config) (o : Observed) (m : Bool) (f : Option Parts) → is_waiting o.state ≡ true
    → let q = cond (nat_le 7 o.state && m) (anew o) (option_map_or (by_frame c o) f o) in q.state ≡ o.state → q.expiries ≡ o.expiries
heard-count c o m f h1z h2z = grind (arith, framed-same)

counts-same : (c : Config) (service : Service) (tei : ℕ) (what : line_event.Event) (a : Answer) (o : Observed) → is_own_t200 service tei what ≡ false → is_waiting o.state ≡ true
    → (by_event c service tei what a o).state ≡ o.state → (by_event c service tei what a o).expiries ≡ o.expiries
counts-same c service tei what a o h1z h2z h3z = grind (arith, heard-count, sent-like)

-- T200 expires there: it does so once more, or the state is left.
led-on : (c : Config) (o : Observed) → is_waiting o.state ≡ true → may_repeat c o ≡ true → by_t200 c o ≡ record o { expiries = o.expiries + 1 }
led-on c o waits less = grind (arith, eqb-true)

led-out : (c : Config) (o : Observed) → is_waiting o.state ≡ true → may_repeat c o ≡ false → (by_t200 c o).state ≡ o.state → ⊥
led-out c o waits none same = grind (arith, eqb-true)

module _ (c : Config) (lengths : Lengths) (late number : ℕ) (ranged : IsInRange c) (within : number < c.lines) (service : Service) (tei n limit : ℕ) (waiting : is_waiting n ≡ true) where
  abbrev G : List Event → TimedCard → Type 0
  G events t = Goes c lengths late number ranged within service tei events t

  abbrev S : List Event → TimedCard → Type 0
  S events t = Stands c lengths late number ranged within service tei events t

  abbrev o_at : List Event → Observed
  o_at events = seen c lengths late number ranged within service tei events

  abbrev H : List Event → Clock → (ℕ → Type 0) → Type 0
  H events clock P = Holds c lengths late number ranged within service tei T200 events clock P

  -- T200 falls due so early that all expiries that are left come by the limit.
  abbrev D : ℕ → ℕ → Type 0
  D expiries m = m + late + (repeats_in c n - expiries) * (lengths.t200 + late) ≤ limit

  pub record Awaits (events : List Event) (t : TimedCard) : Type 0 where
    pub goes : G events t
    pub on : is_on tei (view_of c service tei number events).teis ≡ true
    pub state_is : (o_at events).state ≡ n
    pub due_by : H events t.clock (D (o_at events).expiries)

  waits-at : (o : Observed) → o.state ≡ n → is_waiting o.state ≡ true
  waits-at o is = ap is_waiting is ∙ waiting

  runs-at : (o : Observed) → o.state ≡ n → runs T200 o ≡ true
  runs-at o is = awaits-in o (waits-at o is)

  abbrev IsThere : List Event → Event → Type 0
  IsThere events e = (is_on tei (view_of c service tei number (events ++ e ∷ [])).teis ≡ true) × ((o_at (events ++ e ∷ [])).state ≡ n)

  -- An event of the line.
  module _ (events : List Event) (t u : TimedCard) (w : Awaits events t) (s : S events u) (what : line_event.Event)
      (g : G (events ++ at number what ∷ []) (with_event (at number what) u)) (there : IsThere events (at number what)) where
    abbrev o : Observed
    o = o_at events

    abbrev q : Observed
    q = (view_behind c service tei number events what).link

    is-q : o_at (events ++ at number what ∷ []) ≡ q
    is-q = q-is c lengths late number ranged within service tei events u s what T200

    same-state : q.state ≡ o.state
    same-state = ap (λ (x : Observed). x.state) (sym is-q) ∙ there.1 ∙ sym w.state_is

    -- that is not the expiry of T200
    still : is_own_t200 service tei what ≡ false → H events u.clock (D o.expiries) → Awaits (events ++ at number what ∷ []) (with_event (at number what) u)
    still other h =
        let by = stays-on c events number ranged s.all within service tei what w.on (ap (λ (v : View). is_on tei v.teis) (sym (view-then c service tei number events (at number what))) ∙ there.0) in
        let count : q.expiries ≡ o.expiries = grind (arith, counts-same, moment_of, answer, waits-at, same-state) in
        let none : is_anew c service tei T200 o q what ≡ false = not-anew c events number ranged s.all within service tei what u.clock (waits-at o w.state_is) same-state (omega (arith, count)) in
        let never : (not (runs T200 o) || is_anew c service tei T200 o q what) ≡ false = grind (arith, not, is_anew, runs-at) in
        record {
          goes = g;
          on = there.0;
          state_is = there.1;
          due_by = step c lengths late number ranged within service tei events u s what T200 (D o.expiries) (D (o_at (events ++ at number what ∷ [])).expiries) (λ run kept. h run)
              (λ run m late_is d. subst (λ e. D e m) (sym (ap (λ (x : Observed). x.expiries) is-q ∙ count)) d) (λ begun run. absurd (true≢false (sym begun ∙ never)));
        }

  -- It falls due at m, and expires once more.
  again : (now m e : ℕ) → now ≤ m + late → e < repeats_in c n → D e m → D (e + 1) (now + lengths.t200)
  again now m e late_is less d = grind arith

  module _ (events : List Event) (t u : TimedCard) (w : Awaits events t) (s : S events u) (same_now : u.clock.now ≡ t.clock.now)
      (g : G (events ++ at number (expiry (timers.T200 service tei)) ∷ []) (with_event (at number (expiry (timers.T200 service tei))) u))
      (there : IsThere events (at number (expiry (timers.T200 service tei)))) where
    abbrev its : line_event.Event
    its = expiry (timers.T200 service tei)

    leads : o_at (events ++ at number (expiry (timers.T200 service tei)) ∷ []) ≡ by_t200 c (o_at events)
    leads = is-q events t u w s its g there ∙ t200-leads c number ranged within service tei events s.all w.on

    expired : Awaits (events ++ at number (expiry (timers.T200 service tei)) ∷ []) (with_event (at number (expiry (timers.T200 service tei))) u)
    expired = by-bool (may_repeat c (o_at events)) (λ less.
        let count = ap (λ (x : Observed). x.expiries) (leads ∙ led-on c (o_at events) (waits-at (o_at events) w.state_is) less) in let d = w.due_by (runs-at (o_at events) w.state_is) in
        record {
          goes = g;
          on = there.0;
          state_is = there.1;
          due_by = step c lengths late number ranged within service tei events u s its T200 (λ m. ⊥) (D (o_at (events ++ at number its ∷ [])).expiries)
              (λ run kept. absurd (true≢false (sym (expired-anew c number ranged within service tei events s.all T200 run) ∙ kept))) (λ run m late_is h. absurd h)
              (λ begun run. subst (λ e. D e (u.clock.now + lengths.t200)) (sym count)
              (again u.clock.now d.0 (o_at events).expiries (subst (λ k. k ≤ d.0 + late) (sym same_now) d.2) (ltb-true (o_at events).expiries (repeats_in c (o_at events).state) less) d.3));
        })
        (λ none. absurd (led-out c (o_at events) (waits-at (o_at events) w.state_is) none (ap (λ (x : Observed). x.state) (sym leads) ∙ there.1 ∙ sym w.state_is)))

  -- An event at another line.
  elsewhere-awaits : (events : List Event) (t u : TimedCard) → Awaits events t → S events u → (e : Event) → (e.line == number) ≡ false → G (events ++ e ∷ []) (with_event e u) → IsThere events e
      → H events u.clock (D (o_at events).expiries) → Awaits (events ++ e ∷ []) (with_event e u)
  elsewhere-awaits events t u w s e other g there h =
      let m : Moment = record { card = runs_of.after_all (cards.fresh c) events; event = e; answer = answer e (runs_of.after_all (cards.fresh c) events) } in
      let same : o_at (events ++ e ∷ []) ≡ o_at events = grind (arith, view-then, elsewhere, view_of) in
      record {
        goes = g;
        on = there.0;
        state_is = there.1;
        due_by = subst (λ (o : Observed). H (events ++ e ∷ []) (with_event e u).clock (D o.expiries)) (sym same)
            (other-line c lengths late number ranged within service tei events u s (D (o_at events).expiries) e T200 other h);
      }

  abbrev Then : List Event → TimedCard → Event → Type 0
  Then events u e = G (events ++ e ∷ []) (with_event e u) → IsThere events e → Awaits (events ++ e ∷ []) (with_event e u)

  -- A timer falls due.
  module _ (events : List Event) (t : TimedCard) (w : Awaits events t) (x : Expiry) (is : due t.clock ≡ Some x) where
    abbrev u : TimedCard
    u = record t { clock = without_first t.clock }

    based : S events u
    based = record { card = w.goes.stands.card; all = w.goes.stands.all; lengths_are = w.goes.stands.lengths_are }

    stays-due : Stays c lengths late number ranged within service tei t T200 → H events u.clock (D (o_at events).expiries)
    stays-due stays run = stays (D (o_at events).expiries) (w.due_by run)

    fell-awaits : Then events u (expiry_of x)
    fell-awaits =
        each-fall c lengths late number ranged within service tei (Then events u) t x is
        (λ stays other g there. elsewhere-awaits events t u w based (expiry_of x) other g there (stays-due (stays T200)))
        (λ stays timer none g there. still events t u w based (expiry timer) g there (foreign-t200 service tei timer none) (stays-due (stays T200))) (λ stays own same. expired events t u w based refl)
        (λ stays g there. still events t u w based (expiry (timers.T203 service tei)) g there refl (stays-due stays))

  -- A step.
  there-now : (events : List Event) (e : Event) (t : TimedCard) → G (events ++ e ∷ []) t → state number service tei t.card ≡ Some n → IsThere events e
  there-now events e t g is =
      let its = ap (state number service tei) (sym g.stands.card) ∙ is in
      (on-where c (events ++ e ∷ []) number ranged g.stands.all within service tei (ap is_some its), state-is c (events ++ e ∷ []) number ranged g.stands.all within service tei n its)

  step-awaits : (events : List Event) (t : TimedCard) (d : Step Event) → Awaits events t → IsPrompt late d t → state number service tei (after d t).card ≡ Some n
      → Awaits (events ++ option_to_list (event_of d t)) (after d t)
  step-awaits events t (happens e) w prompt is =
      let g = step-goes c lengths late number ranged within service tei events t (happens e) w.goes prompt in
      at-lines number (Then events t) e (λ other g there. elsewhere-awaits events t t w w.goes.stands e other g there w.due_by)
      (λ own g there. still events t t w w.goes.stands e.what g there (no-expiry service tei e.what prompt.1) w.due_by) g (there-now events e (with_event e t) g is)
  step-awaits events t (time moment) w prompt is =
      let u = record t { clock = at_moment moment t.clock } in
      subst (λ es. Awaits es (record t { clock = at_moment moment t.clock })) (sym (append-nil events))
      (record {
        goes = subst (λ es. G es (record t { clock = at_moment moment t.clock })) (append-nil events) (step-goes c lengths late number ranged within service tei events t (time moment) w.goes prompt);
        on = w.on;
        state_is = w.state_is;
        due_by = λ run. let d = w.due_by run in (d.0, d.1, in-time late moment number (timers.T200 service tei) t.clock.running d.0 prompt.1 d.1, d.3);
      })
  step-awaits events t falls_due w prompt is = go (due t.clock) refl (step-goes c lengths late number ranged within service tei events t falls_due w.goes prompt) is
    where
      go : (o : Option Expiry) → due t.clock ≡ o → G (events ++ option_to_list (option_map expiry_of o)) (option_map_or (timed_expiry t) o t)
          → state number service tei (option_map_or (timed_expiry t) o t).card ≡ Some n → Awaits (events ++ option_to_list (option_map expiry_of o)) (option_map_or (timed_expiry t) o t)
      go None is g at_n = subst (λ es. Awaits es t) (sym (append-nil events)) w
      go (Some x) is g at_n = fell-awaits events t w x is g (there-now events (expiry_of x) (timed_expiry t x) g at_n)

  pub steps-await : (events : List Event) (t : TimedCard) (steps : List (Step Event)) → Awaits events t → ArePrompt late steps t → StaysIn of_frames number service tei n steps t
      → Awaits (events ++ events_of steps t) (after_all steps t)
  unfolding timed_after_all timed_events_of TimedArePrompt StaysIn
  steps-await events t [] w prompt stays = subst (λ es. Awaits es t) (sym (append-nil events)) w
  steps-await events t (d ∷ steps) w prompt stays =
      subst (λ es. Awaits es (after_all steps (after d t))) (append_assoc events (option_to_list (event_of d t)) (events_of steps (after d t)))
      (steps-await (events ++ option_to_list (event_of d t)) (after d t) steps (step-awaits events t d w prompt.0 stays.0) prompt.1 stays.1)

  pub in-the-limit : (events : List Event) (t : TimedCard) → Awaits events t → t.clock.now ≤ limit
  in-the-limit events t w = let d = w.due_by (runs-at (o_at events) w.state_is) in omega (arith, d.2, d.3)

pub no-answer-is-awaited-longer : NoAnswerIsAwaitedLonger of_frames
no-answer-is-awaited-longer service c lengths late number tei n before steps ranged within waiting prompt_before prompt at_n stays =
    in-the-limit c lengths late number ranged within service tei n limit waiting (events ++ events_of steps t) (after_all steps t)
    (steps-await c lengths late number ranged within service tei n limit waiting events t steps first prompt stays)
  where
    t : TimedCard
    t = after_all before (fresh c lengths)

    events : List Event
    events = events_of before (fresh c lengths)

    limit : ℕ
    limit = (after_all before (fresh c lengths)).clock.now + tries c * (lengths.t200 + late)

    g : Goes c lengths late number ranged within service tei (events_of before (fresh c lengths)) (after_all before (fresh c lengths))
    g = before-goes c lengths late number ranged within service tei [] (fresh c lengths) before (begins c lengths late number ranged within service tei) prompt_before

    its : state number service tei (runs_of.after_all (cards.fresh c) (events_of before (fresh c lengths))) ≡ Some n
    its = ap (state number service tei) (sym g.stands.card) ∙ at_n

    early : (now m e : ℕ) → m ≤ now + lengths.t200 → m + late + (repeats_in c n - e) * (lengths.t200 + late) ≤ now + tries c * (lengths.t200 + late)
    early now m e low = omega (arith, left-in-all c n e (lengths.t200 + late), low)

    first : Awaits c lengths late number ranged within service tei n limit waiting events t
    first = record {
      goes = g;
      on = on-where c (events_of before (fresh c lengths)) number ranged g.stands.all within service tei (ap is_some its);
      state_is = state-is c (events_of before (fresh c lengths)) number ranged g.stands.all within service tei n its;
      due_by = λ run. let d = g.timers_are T200 run in (d.0, d.1, d.2, early t.clock.now d.0 (seen c lengths late number ranged within service tei events).expiries d.3);
    }
