-- N200 is used up no sooner than T200 has run out so often.
use Rattle.laws_time.proofs.Vocabulary.{ArePrompt as TimedArePrompt, Bool, Clock, Config, Event, Expiry, IsInRange, Lengths, List, Moment, N200TakesItsTime, None, Note, Observed, Option, Service, Some, Step, T200, TimedCard, View, [], add-mul, after_all as timed_after_all, ap, append-nil, arith, at, at_moment, by_event, by_t200, cond, counted, due, enquiries, eq-eqb}
use Rattle.laws_time.proofs.Vocabulary.{eqb-true, event_of, events_of, expiry, falls_due, false, filter, in_state, inl, inr, is_news, is_of, is_on, is_same, is_waiting, ltb-false, moment_at, moment_of, mul-le, news, news_in, not, notes_due, notes_of, of_frames, option_map, option_map_or, option_to_list, orders_in, own-is, refl, runs, state, step_happens as happens, subst, sym, time, tries, true}
use Rattle.laws_time.proofs.Vocabulary.{true≢false, view_behind, view_of, without_first, ℕ, ◌&&◌, ◌*◌, ◌++◌, ◌+◌, ◌<◌, ◌==◌, ◌||◌, ◌∙◌, ◌∷◌, ◌≡◌, ◌≤◌, ◌⊎◌}
use Rattle.lapd_frame.specs.declared.timers.Timer.TheVariants as timers
use Rattle.model_line.specs.Event as line_event
use Rattle.model_line.specs.Line.{repeats_in}
use Rattle.model_card.specs.Card as cards
use Rattle.model_card.specs.Machine.{answer}
use Rattle.model_card.specs.Run as runs_of
use Rattle.model_timed.specs.Frames.{fresh, after, after_all, ArePrompt}
use Rattle.laws_time.proofs.TimedFrames.{with_event, expiry_of, with_expiry as timed_expiry, IsPrompt}
use Rattle.laws_time.proofs.Links.{view-then, state-is, there}
use Rattle.laws_time.proofs.Moments.{at-lines, itself, now-stays, foreign-t200, is_own_t200}
use Rattle.laws_time.proofs.Walk.{Stands, Holds, seen, own-news}
use Rattle.laws_time.proofs.Falls.{in-time}
use Rattle.laws_time.proofs.Before.{Goes, Stays, views-elsewhere, other-line, step-goes, each-fall, before-goes, begins, t200-leads, expired-anew}
use Rattle.laws_time.proofs.OfCircuit.Orders.{awaits-in}
use Rattle.laws_time.proofs.ArrivalsOneEvent.{used-append, led, idle-off, used-means, expiry-means, Used, no-expiry, due-now, Runs, first-time, once-more, out-of-7, fewer, is-q, views-own, anew-due, other-due, other-news}

counted-once : (c : Config) → counted c ≤ 1
counted-once c = grind arith

-- the expiry that leads out of state 7 is one of N200
fewer-left : (c : Config) → enquiries c T200 + counted c ≤ tries c
fewer-left c = grind arith

module _ (c : Config) (lengths : Lengths) (late number : ℕ) (ranged : IsInRange c) (within : number < c.lines) (service : Service) (tei t0 slack floor : ℕ) (least : floor ≤ 1)
    (covers : counted c ≤ slack + floor) (few : ℕ) (most : few + slack ≤ tries c) where
  abbrev G : List Event → TimedCard → Type 0
  G events t = Goes c lengths late number ranged within service tei events t

  abbrev S : List Event → TimedCard → Type 0
  S events t = Stands c lengths late number ranged within service tei events t

  abbrev o_at : List Event → Observed
  o_at events = seen c lengths late number ranged within service tei events

  abbrev H : List Event → Clock → (ℕ → Type 0) → Type 0
  H events clock P = Holds c lengths late number ranged within service tei T200 events clock P

  abbrev P : Observed → ℕ → Type 0
  P o m = (is_waiting o.state ≡ true → t0 + (o.expiries + 1) * lengths.t200 ≤ m + slack * lengths.t200) × (o.state ≡ 7 → floor * (t0 + lengths.t200) ≤ m)

  -- T200 falls due and expires.
  module _ (events : List Event) (t u : TimedCard) (w : Runs c lengths late number ranged within service tei t0 slack floor least covers events t) (s : S events u) (m0 : ℕ) (same_now : u.clock.now ≡ t.clock.now)
      (at_m : moment_of number (timers.T200 service tei) t.clock.running ≡ Some m0) (low : m0 ≤ t.clock.now) (soon : t.clock.now < t0 + few * lengths.t200) where
    abbrev its : line_event.Event
    its = expiry (timers.T200 service tei)

    abbrev o_was : Observed
    o_was = o_at events

    abbrev q_then : Observed
    q_then = (view_behind c service tei number events (expiry (timers.T200 service tei))).link

    -- as often as it has run out
    in-time-so : runs T200 o_was ≡ true → P o_was m0
    in-time-so run = grind arith

    led-by : runs T200 o_was ≡ true → q_then ≡ by_t200 c o_was
    led-by run = t200-leads c number ranged within service tei events s.all (there c events number ranged s.all within service tei T200 run)

    expired-due : H (events ++ at number (expiry (timers.T200 service tei)) ∷ []) (with_event (at number (expiry (timers.T200 service tei))) u).clock (P (o_at (events ++ at number (expiry (timers.T200 service tei)) ∷ [])))
    expired-due = go (runs T200 o_was) refl
      where
        once : (run : runs T200 o_was ≡ true) → is_waiting q_then.state ≡ true
            → ((o_was.state ≡ 7) × ((by_t200 c o_was).expiries ≡ counted c)) ⊎ ((by_t200 c o_was).expiries ≡ 0) ⊎ (((by_t200 c o_was).expiries ≡ o_was.expiries + 1) × (is_waiting o_was.state ≡ true))
            → t0 + (q_then.expiries + 1) * lengths.t200 ≤ u.clock.now + lengths.t200 + slack * lengths.t200
        once run waits (inl (at_7, count)) =
            out-of-7 c lengths late number ranged within service tei t0 slack floor least covers u.clock.now m0 q_then.expiries (subst (λ n. t0 ≤ n) (sym same_now) w.since) (subst (λ n. m0 ≤ n) (sym same_now) low)
            (ap (λ (q : Observed). q.expiries) (led-by run) ∙ count) ((in-time-so run).1 at_7)
        once run waits (inr (inl none)) = first-time c lengths late number ranged within service tei t0 slack floor least covers u.clock.now u.clock.now q_then (subst (λ n. t0 ≤ n) (sym same_now) w.since) (ap (λ (q : Observed). q.expiries) (led-by run) ∙ none)
        once run waits (inr (inr (count, was))) =
            subst (λ e. t0 + (e + 1) * lengths.t200 ≤ u.clock.now + lengths.t200 + slack * lengths.t200) (sym (ap (λ (q : Observed). q.expiries) (led-by run) ∙ count))
            (once-more c lengths late number ranged within service tei t0 slack floor least covers u.clock.now m0 o_was.expiries (subst (λ n. m0 ≤ n) (sym same_now) low) ((in-time-so (awaits-in o_was was)).0 was))

        go : (b : Bool) → runs T200 o_was ≡ b → H (events ++ at number (expiry (timers.T200 service tei)) ∷ []) (with_event (at number (expiry (timers.T200 service tei))) u).clock (P (o_at (events ++ at number (expiry (timers.T200 service tei)) ∷ [])))
        go true run =
            anew-due c lengths late number ranged within service tei t0 slack floor least covers events u s its (expired-anew c number ranged within service tei events s.all T200 run) (subst (λ n. t0 ≤ n) (sym same_now) w.since)
            (λ waits. once run waits (led c o_was (ap (λ (q : Observed). is_waiting q.state) (sym (led-by run)) ∙ waits) run))
        go false none = λ run.
            absurd (true≢false (sym run ∙ ap (runs T200) (is-q c lengths late number ranged within service tei t0 slack floor least covers events u s its) ∙ off (is_on tei (view_of c service tei number events).teis) refl (is_on tei (view_behind c service tei number events its).teis) refl))
          where
            on_then : Bool
            on_then = is_on tei (view_behind c service tei number events its).teis

            none-on : (b : Bool) → runs T200 (cond (not b) (in_state 1) (in_state 4)) ≡ false
            none-on true = refl
            none-on false = refl

            off : (a : Bool) → is_on tei (view_of c service tei number events).teis ≡ a → (b : Bool) → is_on tei (view_behind c service tei number events its).teis ≡ b → runs T200 q_then ≡ false
            off true on b e = ap (runs T200) (t200-leads c number ranged within service tei events s.all on) ∙ idle-off c o_was none
            off false on b e = ap (runs T200) (views-own c lengths late number ranged within service tei t0 slack floor least covers events u s its ∙ ap (λ a. cond (not on_then) (in_state 1) (cond a (by_event c service tei its (moment_at c events number its).answer o_was) (in_state 4))) on) ∙ none-on on_then

    expired-news : Used (news_in of_frames service tei number (Some (at number (expiry (timers.T200 service tei)))) u.card) ≡ false
    expired-news = ap Used (own-news c lengths late number ranged within service tei events u s its) ∙ go (Used (notes_due c service tei o_was q_then its (moment_at c events number its).answer)) refl
      where
        never : (is_waiting o_was.state ≡ true) → ((o_was.state == q_then.state) ≡ false) → ⊥
        never waits moves =
            let run = awaits-in o_was waits in
            let x = expiry-means c service tei o_was (timers.T200 service tei) waits (ap (λ (q : Observed). o_was.state == q.state) (sym ((led-by run ∙ sym (ap (λ b. cond b (by_t200 c o_was) o_was) (own-is service tei))))) ∙ moves) in
            let many : repeats_in c o_was.state ≤ o_was.expiries = ltb-false o_was.expiries (repeats_in c o_was.state) x.1 in
            let b = fewer c lengths late number ranged within service tei t0 slack floor least covers (repeats_in c o_was.state) o_was.expiries m0 many ((in-time-so (awaits-in o_was waits)).0 waits) in
            let whole = mul-le (few + slack) lengths.t200 (tries c) lengths.t200 most (omega arith) in let parts = add-mul few slack lengths.t200 in
            absurd (omega (arith, b, low, soon, whole, parts))

        go : (b : Bool) → Used (notes_due c service tei o_was q_then its (moment_at c events number its).answer) ≡ b → b ≡ false
        go false e = refl
        go true e = let x = used-means c service tei o_was q_then its (moment_at c events number its).answer e in absurd (never x.2 x.3)

  -- An event at either line.
  abbrev Then : List Event → TimedCard → Event → Type 0
  Then events u e = H (events ++ e ∷ []) (with_event e u).clock (P (o_at (events ++ e ∷ []))) × (Used (news_in of_frames service tei number (Some e) u.card) ≡ false)

  elsewhere-runs : (events : List Event) (u : TimedCard) (s : S events u) (e : Event) → (e.line == number) ≡ false → H events u.clock (P (o_at events)) → Then events u e
  elsewhere-runs events u s e other h = (elsewhere-due other h, ap (λ b. Used (cond b (filter (is_news service tei) (notes_of (answer e u.card))) [])) other)
    where
      elsewhere-due : (e.line == number) ≡ false → H events u.clock (P (o_at events)) → H (events ++ e ∷ []) (with_event e u).clock (P (o_at (events ++ e ∷ [])))
      elsewhere-due other h = by (is_on tei (view_of c service tei number events).teis) refl
        where
          m : Moment
          m = record { card = runs_of.after_all (cards.fresh c) events; event = e; answer = answer e (runs_of.after_all (cards.fresh c) events) }

          is : o_at (events ++ e ∷ []) ≡ cond (not (is_on tei (view_of c service tei number events).teis)) (in_state 1) (o_at events)
          is = ap (λ (v : View). v.link) (view-then c service tei number events e) ∙ views-elsewhere c service tei number (view_of c service tei number events) m other

          by : (b : Bool) → is_on tei (view_of c service tei number events).teis ≡ b → H (events ++ e ∷ []) (with_event e u).clock (P (o_at (events ++ e ∷ [])))
          by true on =
              subst (λ (o : Observed). H (events ++ e ∷ []) (with_event e u).clock (P o)) (sym (is ∙ ap (λ b. cond (not b) (in_state 1) (o_at events)) on))
              (other-line c lengths late number ranged within service tei events u s (P (o_at events)) e T200 other h)
          by false off = λ run. absurd (true≢false (sym run ∙ ap (runs T200) (is ∙ ap (λ b. cond (not b) (in_state 1) (o_at events)) off)))

  calm-runs : (events : List Event) (u : TimedCard) (s : S events u) (what : line_event.Event) → is_own_t200 service tei what ≡ false → t0 ≤ u.clock.now → H events u.clock (P (o_at events)) → Then events u (at number what)
  calm-runs events u s what none since h = (other-due c lengths late number ranged within service tei t0 slack floor least covers events u s what none since h, other-news c lengths late number ranged within service tei t0 slack floor least covers events u s what none since h)

  -- A timer falls due.
  module _ (events : List Event) (t : TimedCard) (w : Runs c lengths late number ranged within service tei t0 slack floor least covers events t) (x : Expiry) (is : due t.clock ≡ Some x) (soon : t.clock.now < t0 + few * lengths.t200) where
    abbrev u : TimedCard
    u = record t { clock = without_first t.clock }

    based : S events u
    based = record { card = w.goes.stands.card; all = w.goes.stands.all; lengths_are = w.goes.stands.lengths_are }

    stays-due : Stays c lengths late number ranged within service tei t T200 → H events u.clock (P (o_at events))
    stays-due stays run = stays (P (o_at events)) (w.due_by run)

    mine : (x.line == number) ≡ true → x.timer ≡ timers.T200 service tei → Then events u (at number (expiry (timers.T200 service tei)))
    mine own_line same =
        let its_own : is_of number (timers.T200 service tei) x ≡ true = ap (λ b. b && is_same x.timer (timers.T200 service tei)) own_line ∙ ap (λ timer. is_same timer (timers.T200 service tei)) same ∙ itself (timers.T200 service tei) in
        let d = due-now number (timers.T200 service tei) t.clock.running t.clock.now x is its_own in
        (expired-due events t u w based x.moment refl d.0 d.1 soon, expired-news events t u w based x.moment refl d.0 d.1 soon)

    fell-runs : Then events u (expiry_of x)
    fell-runs =
        each-fall c lengths late number ranged within service tei (Then events u) t x is (λ stays other. elsewhere-runs events u based (expiry_of x) other (stays-due (stays T200)))
        (λ stays timer none. calm-runs events u based (expiry timer) (foreign-t200 service tei timer none) w.since (stays-due (stays T200))) (λ stays own_line same. mine own_line same)
        (λ stays. calm-runs events u based (expiry (timers.T203 service tei)) refl w.since (stays-due stays))

  -- A step.
  pub record Stepped (events : List Event) (t : TimedCard) (told : List Note) : Type 0 where
    pub runs_on : Runs c lengths late number ranged within service tei t0 slack floor least covers events t
    pub none : Used told ≡ false

  later : (e : Event) (u : TimedCard) → t0 ≤ u.clock.now → t0 ≤ (with_event e u).clock.now
  later e u since = subst (λ n. t0 ≤ n) (sym (now-stays e.line u.clock (orders_in (answer e u.card)))) since

  step-runs : (events : List Event) (t : TimedCard) (d : Step Event) → Runs c lengths late number ranged within service tei t0 slack floor least covers events t → IsPrompt late d t → t.clock.now < t0 + few * lengths.t200
      → Stepped (events ++ option_to_list (event_of d t)) (after d t) (news_in of_frames service tei number (event_of d t) t.card)
  step-runs events t (happens e) w prompt soon =
      let g = step-goes c lengths late number ranged within service tei events t (happens e) w.goes prompt in
      let x = at-lines number (Then events t) e (λ other. elsewhere-runs events t w.goes.stands e other w.due_by)
      (λ own_line. calm-runs events t w.goes.stands e.what (no-expiry service tei e.what prompt.1) w.since w.due_by) in
      record { runs_on = record { goes = g; since = later e t w.since; due_by = x.0 }; none = x.1 }
  step-runs events t (time moment) w prompt soon =
      let g = step-goes c lengths late number ranged within service tei events t (time moment) w.goes prompt in
      record {
        runs_on = subst (λ es. Runs c lengths late number ranged within service tei t0 slack floor least covers es (record t { clock = at_moment moment t.clock })) (sym (append-nil events))
            (record {
              goes = subst (λ es. G es (record t { clock = at_moment moment t.clock })) (append-nil events) g;
              since = let first = w.since in let on = prompt.0 in omega (arith, first, on);
              due_by = λ run. let d = w.due_by run in (d.0, d.1, in-time late moment number (timers.T200 service tei) t.clock.running d.0 prompt.1 d.1, d.3);
            });
        none = refl;
      }
  step-runs events t falls_due w prompt soon = go (due t.clock) refl (step-goes c lengths late number ranged within service tei events t falls_due w.goes prompt)
    where
      go : (o : Option Expiry) → due t.clock ≡ o → G (events ++ option_to_list (option_map expiry_of o)) (option_map_or (timed_expiry t) o t)
          → Stepped (events ++ option_to_list (option_map expiry_of o)) (option_map_or (timed_expiry t) o t) (news_in of_frames service tei number (option_map expiry_of o) t.card)
      go None is g = record { runs_on = subst (λ es. Runs c lengths late number ranged within service tei t0 slack floor least covers es t) (sym (append-nil events)) w; none = refl }
      go (Some x) is g =
          let y = fell-runs events t w x is soon in record { runs_on = record { goes = g; since = later (expiry_of x) (record t { clock = without_first t.clock }) w.since; due_by = y.0 }; none = y.1 }

  -- Time goes on.
  later-on : (t : TimedCard) (d : Step Event) → IsPrompt late d t → t.clock.now ≤ (after d t).clock.now
  later-on t h prompt = grind (arith, now-stays, orders_in, answer, due, option_map_or, timed_expiry, without_first, expiry_of)

  all-later : (t : TimedCard) (steps : List (Step Event)) → ArePrompt late steps t → t.clock.now ≤ (after_all steps t).clock.now
  unfolding timed_after_all TimedArePrompt
  all-later t [] prompt = omega arith
  all-later t (d ∷ steps) prompt = let one = later-on t d prompt.0 in let rest = all-later (after d t) steps prompt.1 in omega (arith, one, rest)

  pub steps-run : (events : List Event) (t : TimedCard) (steps : List (Step Event)) → Runs c lengths late number ranged within service tei t0 slack floor least covers events t → ArePrompt late steps t → (after_all steps t).clock.now < t0 + few * lengths.t200
      → Used (news of_frames service tei number steps t) ≡ false
  unfolding timed_after_all TimedArePrompt news
  steps-run events t [] w prompt soon = refl
  steps-run events t (d ∷ steps) w prompt soon =
      let rest = all-later (after d t) steps prompt.1 in let one = later-on t d prompt.0 in let x = step-runs events t d w prompt.0 (omega (arith, soon, rest, one)) in
      used-append (news_in of_frames service tei number (event_of d t) t.card) (news of_frames service tei number steps (after d t)) x.none
      (steps-run (events ++ option_to_list (event_of d t)) (after d t) steps x.runs_on prompt.1 soon)

pub n200-takes-its-time : N200TakesItsTime of_frames
n200-takes-its-time service c lengths late number tei n before steps ranged within idle prompt_before prompt at_n soon = go (n == 7) refl
  where
    t : TimedCard
    t = after_all before (fresh c lengths)

    events : List Event
    events = events_of before (fresh c lengths)

    g : Goes c lengths late number ranged within service tei (events_of before (fresh c lengths)) (after_all before (fresh c lengths))
    g = before-goes c lengths late number ranged within service tei [] (fresh c lengths) before (begins c lengths late number ranged within service tei) prompt_before

    its : (seen c lengths late number ranged within service tei (events_of before (fresh c lengths))).state ≡ n
    its = state-is c (events_of before (fresh c lengths)) number ranged g.stands.all within service tei n (ap (state number service tei) (sym g.stands.card) ∙ at_n)

    not-waiting : (n : ℕ) → (n == 4 || n == 7) ≡ true → is_waiting n ≡ true → ⊥
    not-waiting n idle waits = true≢false (grind (arith, eqb-true))

    first : (slack floor : ℕ) (least : floor ≤ 1) (covers : counted c ≤ slack + floor) → ((seen c lengths late number ranged within service tei events).state ≡ 7 → floor ≤ 0)
        → Runs c lengths late number ranged within service tei t.clock.now slack floor least covers events t
    first slack floor least covers none = record {
      goes = g;
      since = omega arith;
      due_by = λ run.
          let d = g.timers_are T200 run in (
            d.0,
            d.1,
            d.2,
            (
              λ waits. absurd (not-waiting n idle (ap is_waiting (sym its) ∙ waits)),
              λ at_7. let low = mul-le floor (t.clock.now + lengths.t200) 0 (t.clock.now + lengths.t200) (none at_7) (omega arith) in omega (arith, low),
            ),
          );
    }

    go : (b : Bool) → (n == 7) ≡ b → Used (news of_frames service tei number steps t) ≡ false
    go true at_7 =
        let most = fewer-left c in
        steps-run c lengths late number ranged within service tei t.clock.now (counted c) 0 (omega arith) (omega arith) (enquiries c T200) most events t steps (first (counted c) 0 (omega arith) (omega arith) (λ is. omega arith)) prompt
        (subst (λ b. (after_all steps t).clock.now < t.clock.now + cond {A = ℕ} b (enquiries c T200) (tries c) * lengths.t200) at_7 soon)
    go false not_7 =
        steps-run c lengths late number ranged within service tei t.clock.now 0 (counted c) (counted-once c) (omega arith) (tries c) (omega arith) events t steps
        (first 0 (counted c) (counted-once c) (omega arith) (λ is. absurd (true≢false (sym (eq-eqb n 7 (sym its ∙ is)) ∙ not_7)))) prompt
        (subst (λ b. (after_all steps t).clock.now < t.clock.now + cond {A = ℕ} b (enquiries c T200) (tries c) * lengths.t200) not_7 soon)
