-- What is told at first and in the end, over plain values.
use Rattle.laws_time.proofs.Vocabulary.{ADeadLineIsTold, ArePrompt as TimedArePrompt, AreStill, Clock, Config, Event, Expiry, IsFront, IsInRange, IsNoExpiry, IsStillAt, IsToldInTime, Lengths, LinkTimer, List, Moment, None, Note, Observed, Option, Service, Some, Step, T200, T203, TimedCard, View, [], after_all as timed_after_all, all_in, ap, append-nil, append_assoc, arith}
use Rattle.laws_time.proofs.Vocabulary.{Bool, at, at_moment, cond, due, eqb-true, event_of, events_of, expiry, falls_due, false, filter, first_in, inl, inr, is_news, is_on, is_some, length, length-append, nat_le, news, news_in, notes_of, of_frames, option_map, option_map_or, option_to_list, refl, runs, state, step_happens as happens, subst, sym, time, by-bool}
use Rattle.laws_time.proofs.Vocabulary.{timed_events_of, told_in, true, true≢false, view_behind, view_of, without_first, ℕ, ⊎_elim, ◌++◌, ◌+◌, ◌-◌, ◌<◌, ◌==◌, ◌∙◌, ◌∷◌, ◌≡◌, ◌≤◌, ◌⊎◌}
use Rattle.lapd_frame.specs.declared.timers.Timer.TheVariants as timers
use Rattle.model_line.specs.Event as line_event
use Rattle.model_card.specs.Card as cards
use Rattle.model_card.specs.Run as runs_of
use Rattle.model_card.specs.Machine.{answer}
use Rattle.laws_time.specs.Watched.{owed_by}
use Rattle.model_timed.specs.Frames.{fresh, after, after_all, ArePrompt}
use Rattle.laws_time.proofs.Silent.{Due200, Due203, owed, owed_of, whole, left-in-all, Waits, waits-still, waits-200, waits-203, idle, idle-200-is, idle-203-is, idle-7, never-both, limit, IsPhase}
use Rattle.laws_time.proofs.TimedFrames.{with_event, expiry_of, with_expiry as timed_expiry, IsPrompt}
use Rattle.laws_time.proofs.Links.{view-then, on-where, state-is, owed-so, elsewhere}
use Rattle.laws_time.proofs.Moments.{at-lines}
use Rattle.laws_time.proofs.Effects.{is_its_expiry}
use Rattle.laws_time.proofs.Walk.{Stands, Holds, seen}
use Rattle.laws_time.proofs.Falls.{in-time}
use Rattle.laws_time.proofs.Before.{Goes, Stays, other-line, step-goes, each-fall, before-goes, begins}

four : (n : ℕ) → 4 ≤ n → n ≤ 8 → (n ≡ 4) ⊎ ((n ≡ 5) ⊎ ((n ≡ 6) ⊎ ((n ≡ 7) ⊎ (n ≡ 8))))
four n low high = grind arith

module _ (c : Config) (lengths : Lengths) (late now : ℕ) where
  abbrev pub F : ℕ → ℕ
  F from = now + first_in from late c lengths

  abbrev pub A : ℕ → ℕ
  A from = now + all_in from late c lengths

  abbrev pub Start : ℕ → Type 0
  Start from = (e m : ℕ) → m ≤ now + lengths.t200 → Due200 c lengths.t200 late (F from) (A from) from e m

  start-7 : Start 7
  start-7 e m h = omega (arith, h)

  start-8 : Start 8
  start-8 e m h = omega (arith, h, left-in-all c 8 e (lengths.t200 + late))

  start-5 : Start 5
  start-5 e m h = omega (arith, h, left-in-all c 5 e (lengths.t200 + late))

  start-6 : Start 6
  start-6 e m h = omega (arith, h, left-in-all c 6 e (lengths.t200 + late))

  pub start-200 : (from : ℕ) → 5 ≤ from → from ≤ 8 → Start from
  start-200 from low high = grind (arith, four, start-5, start-6, start-7, start-8)

  pub start-203 : (m : ℕ) → m ≤ now + lengths.t203 → Due203 c lengths.t200 late (F 7) (A 7) m
  start-203 m h = omega (arith, h)

  abbrev pub Up : ℕ → Type 0
  Up from = nat_le 7 from ≡ true → F from + whole c lengths.t200 late (F from) (A from) ≤ A from

  pub start-wait : (from : ℕ) → 5 ≤ from → from ≤ 8 → Up from
  start-wait from low high = grind arith

  -- The end: a state, what was told, and a moment that T200 or T203 is not overdue.
  module _ (service : Service) (tei : ℕ) (from : ℕ) (low : 5 ≤ from) (high : from ≤ 8) (release release_then : Bool) (to then_is : ℕ) (told : List Note) (told_is : told ++ owed service tei release_then to ≡ told_in from release service tei)
      (waits_7 : (to ≡ 7) ⊎ (to ≡ 8) → then_is ≤ F from) (waits_5 : (to ≡ 5) ⊎ (to ≡ 6) → then_is ≤ A from) where
    counted : length told + length (owed service tei release_then to) ≡ length (told_in from release service tei)
    counted = sym (length-append told (owed service tei release_then to)) ∙ ap length told_is

    F-below : F from ≤ A from
    F-below = omega arith

    at-least : 2 ≤ length (told_in from release service tei)
    at-least = grind arith

    -- In states 5 and 6, two are owed: either all of it, as at first, where both times are the same, or one was told.
    two-owed : length (owed service tei release_then to) ≡ 2 → then_is ≤ A from → F from < then_is → 1 ≤ length told
    two-owed two bound later = go (four from (omega (arith, low)) high)
      where
        same-times : (n : ℕ) → from ≡ n → A n ≡ F n → 1 ≤ length told
        same-times n is same = absurd (omega (arith, later, bound, subst (λ n. A n ≡ F n) (sym is) same))

        go : (from ≡ 4) ⊎ ((from ≡ 5) ⊎ ((from ≡ 6) ⊎ ((from ≡ 7) ⊎ (from ≡ 8)))) → 1 ≤ length told
        go (inl is) = absurd (omega (arith, low, is))
        go (inr (inl is)) = same-times 5 is (omega arith)
        go (inr (inr (inl is))) = same-times 6 is (omega arith)
        go (inr (inr (inr (inl is)))) = let three : length (told_in from release service tei) ≡ 3 = ap (λ n. length (told_in n release service tei)) is in omega (arith, counted, two, three)
        go (inr (inr (inr (inr is)))) = let three : length (told_in from release service tei) ≡ 3 = ap (λ n. length (told_in n release service tei)) is in omega (arith, counted, two, three)

    pub ended : 4 ≤ to → to ≤ 8 → IsToldInTime late from release c lengths service tei now then_is told
    ended least most = go (four to least most)
      where
        front : IsFront told (told_in from release service tei)
        front = record { rest = owed service tei release_then to; whole_is = sym told_is }

        go : (to ≡ 4) ⊎ ((to ≡ 5) ⊎ ((to ≡ 6) ⊎ ((to ≡ 7) ⊎ (to ≡ 8)))) → IsToldInTime late from release c lengths service tei now then_is told
        go (inl is) =
            let done : told ≡ told_in from release service tei = sym (append-nil told) ∙ ap (λ n. told ++ owed service tei release_then n) (sym is) ∙ told_is in
            record { front = front; first = λ later. subst (λ ns. 1 ≤ length ns) (sym done) (omega (arith, at-least)); all = λ later. done }
        go (inr (inl is)) = record { front = front; first = two-owed (ap (λ n. length (owed service tei release_then n)) is) (waits_5 (inl is)); all = λ later. absurd (omega (arith, later, waits_5 (inl is))) }
        go (inr (inr (inl is))) = record { front = front; first = two-owed (ap (λ n. length (owed service tei release_then n)) is) (waits_5 (inr is)); all = λ later. absurd (omega (arith, later, waits_5 (inr is))) }
        go (inr (inr (inr (inl is)))) =
            record { front = front; first = λ later. absurd (omega (arith, later, waits_7 (inl is))); all = λ later. absurd (omega (arith, later, waits_7 (inl is), F-below)) }
        go (inr (inr (inr (inr is)))) =
            record { front = front; first = λ later. absurd (omega (arith, later, waits_7 (inr is))); all = λ later. absurd (omega (arith, later, waits_7 (inr is), F-below)) }

-- ---- a dead line is told

no-expiry : (service : Service) (tei : ℕ) (what : line_event.Event) → IsNoExpiry what → is_its_expiry service tei what ≡ false
no-expiry service tei what none = grind arith

module _ (c : Config) (lengths : Lengths) (late number : ℕ) (ranged : IsInRange c) (within : number < c.lines) (service : Service) (tei first all : ℕ) (whole_told : List Note) where
  abbrev W : List Event → TimedCard → List Note → Type 0
  W events t told = Waits c lengths late number ranged within service tei first all whole_told events t told

  abbrev G : List Event → TimedCard → Type 0
  G events t = Goes c lengths late number ranged within service tei events t

  abbrev S : List Event → TimedCard → Type 0
  S events t = Stands c lengths late number ranged within service tei events t

  abbrev o_at : List Event → Observed
  o_at events = seen c lengths late number ranged within service tei events

  abbrev H : LinkTimer → List Event → Clock → (ℕ → Type 0) → Type 0
  H timer events clock P = Holds c lengths late number ranged within service tei timer events clock P

  abbrev DueAt200 : List Event → ℕ → Type 0
  DueAt200 events m = Due200 c lengths.t200 late first all (o_at events).state (o_at events).expiries m

  abbrev DueAt203 : ℕ → Type 0
  DueAt203 m = Due203 c lengths.t200 late first all m

  -- Its TEI stays on the line.
  on-now : (events : List Event) (t : TimedCard) → G events t → is_some (state number service tei t.card) ≡ true → is_on tei (view_of c service tei number events).teis ≡ true
  on-now events t g some = on-where c events number ranged g.stands.all within service tei (ap (λ card. is_some (state number service tei card)) (sym g.stands.card) ∙ some)

  abbrev OnAfter : List Event → Event → Type 0
  OnAfter events e = is_on tei (view_of c service tei number (events ++ e ∷ [])).teis ≡ true

  behind-on : (events : List Event) (what : line_event.Event) → OnAfter events (at number what) → is_on tei (view_behind c service tei number events what).teis ≡ true
  behind-on events what on = ap (λ (v : View). is_on tei v.teis) (sym (view-then c service tei number events (at number what))) ∙ on

  -- An event at another line.
  other-waits : (events : List Event) (t u : TimedCard) (told : List Note) → W events t told → S events u → (e : Event) → (e.line == number) ≡ false → G (events ++ e ∷ []) (with_event e u) → OnAfter events e
      → H T200 events u.clock (DueAt200 events) → H T203 events u.clock DueAt203 → W (events ++ e ∷ []) (with_event e u) (told ++ news_in of_frames service tei number (Some e) u.card)
  other-waits events t u told w s e other g on h200 h203 =
      let m : Moment = record { card = runs_of.after_all (cards.fresh c) events; event = e; answer = answer e (runs_of.after_all (cards.fresh c) events) } in
      let same : o_at (events ++ e ∷ []) ≡ o_at events = grind (arith, view-then, elsewhere, view_of) in
      record {
        goes = g;
        on = on;
        phase = subst IsPhase (sym same) w.phase;
        told_is = grind (arith, cond, filter, is_news, notes_of, owed, owed_of, state, append-nil);
        wait = λ up. w.wait (ap (λ (o : Observed). nat_le 7 o.state) (sym same) ∙ up);
        t200 = subst (λ (o : Observed). H T200 (events ++ e ∷ []) (with_event e u).clock (λ m. Due200 c lengths.t200 late first all o.state o.expiries m)) (sym same)
            (other-line c lengths late number ranged within service tei events u s (DueAt200 events) e T200 other h200);
        t203 = other-line c lengths late number ranged within service tei events u s DueAt203 e T203 other h203;
      }

  abbrev Then : List Event → TimedCard → List Note → Event → Type 0
  Then events u told e = G (events ++ e ∷ []) (with_event e u) → OnAfter events e → W (events ++ e ∷ []) (with_event e u) (told ++ news_in of_frames service tei number (Some e) u.card)

  -- A timer that falls due.
  module _ (events : List Event) (t : TimedCard) (told : List Note) (w : W events t told) (x : Expiry) (is : due t.clock ≡ Some x) where
    abbrev u : TimedCard
    u = record t { clock = without_first t.clock }

    based : S events u
    based = record { card = w.goes.stands.card; all = w.goes.stands.all; lengths_are = w.goes.stands.lengths_are }

    stays-200 : Stays c lengths late number ranged within service tei t T200 → H T200 events u.clock (DueAt200 events)
    stays-200 stays run = stays (DueAt200 events) (w.t200 run)

    stays-203 : Stays c lengths late number ranged within service tei t T203 → H T203 events u.clock DueAt203
    stays-203 stays run = stays DueAt203 (w.t203 run)

    own-200 : Stays c lengths late number ranged within service tei t T203 → Then events u told (at number (expiry (timers.T200 service tei)))
    own-200 stays g on = by-bool (runs T200 (o_at events))
        (λ run. waits-200 c lengths late number ranged within service tei first all whole_told events t u told w based refl (behind-on events (expiry (timers.T200 service tei)) on) g run) (λ none.
        idle c lengths late number ranged within service tei first all whole_told events t u told w based refl (timers.T200 service tei) (behind-on events (expiry (timers.T200 service tei)) on) g
        (idle-200-is c lengths late number ranged within service tei first all whole_told events t u told w based refl none) (λ run. absurd (true≢false (sym run ∙ none)))
        (stays-203 stays))

    own-203 : Stays c lengths late number ranged within service tei t T200 → Then events u told (at number (expiry (timers.T203 service tei)))
    own-203 stays g on = by-bool (runs T203 (o_at events))
        (λ run. waits-203 c lengths late number ranged within service tei first all whole_told events t u told w based refl (behind-on events (expiry (timers.T203 service tei)) on) g run) (λ none.
        idle c lengths late number ranged within service tei first all whole_told events t u told w based refl (timers.T203 service tei) (behind-on events (expiry (timers.T203 service tei)) on) g
        (idle-203-is c lengths late number ranged within service tei first all whole_told events t u told w based refl none)
        (stays-200 stays) (λ run. absurd (true≢false (sym run ∙ none))))

    fell-waits : Then events u told (expiry_of x)
    fell-waits =
        each-fall c lengths late number ranged within service tei (Then events u told) t x is
        (λ stays other g on. other-waits events t u told w based (expiry_of x) other g on (stays-200 (stays T200)) (stays-203 (stays T203)))
        (λ stays timer none g on. waits-still c lengths late number ranged within service tei first all whole_told events t u told w based (expiry timer) (behind-on events (expiry timer) on) g refl none
        (stays-200 (stays T200)) (stays-203 (stays T203))) (λ stays own same. own-200 stays) own-203

  -- A step.
  step-waits : (events : List Event) (t : TimedCard) (told : List Note) (d : Step Event) → W events t told → IsPrompt late d t → IsStillAt of_frames c service tei number d t
      → is_some (state number service tei (after d t).card) ≡ true → W (events ++ option_to_list (event_of d t)) (after d t) (told ++ news_in of_frames service tei number (event_of d t) t.card)
  step-waits events t told (happens e) w prompt still some =
      let g = step-goes c lengths late number ranged within service tei events t (happens e) w.goes prompt in
      at-lines number (Then events t told) e (λ other g on. other-waits events t t told w w.goes.stands e other g on w.t200 w.t203)
      (λ own g on. waits-still c lengths late number ranged within service tei first all whole_told events t t told w w.goes.stands e.what (behind-on events e.what on) g
      (still (eqb-true e.line number own)) (no-expiry service tei e.what prompt.1) w.t200 w.t203) g (on-now (events ++ e ∷ []) (with_event e t) g some)
  step-waits events t told (time moment) w prompt still some =
      let u = record t { clock = at_moment moment t.clock } in
      subst (λ es. W es (record t { clock = at_moment moment t.clock }) (told ++ [])) (sym (append-nil events))
      (subst (W events (record t { clock = at_moment moment t.clock })) (sym (append-nil told))
      (record {
        goes = subst (λ es. G es (record t { clock = at_moment moment t.clock })) (append-nil events) (step-goes c lengths late number ranged within service tei events t (time moment) w.goes prompt);
        on = w.on;
        phase = w.phase;
        told_is = w.told_is;
        wait = w.wait;
        t200 = λ run. let d = w.t200 run in (d.0, d.1, in-time late moment number (timers.T200 service tei) t.clock.running d.0 prompt.1 d.1, d.3);
        t203 = λ run. let d = w.t203 run in (d.0, d.1, in-time late moment number (timers.T203 service tei) t.clock.running d.0 prompt.1 d.1, d.3);
      }))
  step-waits events t told falls_due w prompt still some = go (due t.clock) refl (step-goes c lengths late number ranged within service tei events t falls_due w.goes prompt) some
    where
      go : (o : Option Expiry) → due t.clock ≡ o → G (events ++ option_to_list (option_map expiry_of o)) (option_map_or (timed_expiry t) o t)
          → is_some (state number service tei (option_map_or (timed_expiry t) o t).card) ≡ true
          → W (events ++ option_to_list (option_map expiry_of o)) (option_map_or (timed_expiry t) o t) (told ++ news_in of_frames service tei number (option_map expiry_of o) t.card)
      go None is g on = subst (λ es. W es t (told ++ [])) (sym (append-nil events)) (subst (W events t) (sym (append-nil told)) w)
      go (Some x) is g on = fell-waits events t told w x is g (on-now (events ++ expiry_of x ∷ []) (timed_expiry t x) g on)

  -- Many.
  pub steps-wait : (events : List Event) (t : TimedCard) (told : List Note) (steps : List (Step Event)) → W events t told → ArePrompt late steps t → AreStill of_frames c service tei number steps t
      → W (events ++ events_of steps t) (after_all steps t) (told ++ news of_frames service tei number steps t)
  unfolding timed_after_all timed_events_of TimedArePrompt AreStill news
  steps-wait events t told [] w prompt still = subst (λ es. W es t (told ++ [])) (sym (append-nil events)) (subst (W events t) (sym (append-nil told)) w)
  steps-wait events t told (d ∷ steps) w prompt still =
      subst (λ es. W es (after_all steps (after d t)) (told ++ (news_in of_frames service tei number (event_of d t) t.card ++ news of_frames service tei number steps (after d t))))
      (append_assoc events (option_to_list (event_of d t)) (events_of steps (after d t)))
      (subst (W ((events ++ option_to_list (event_of d t)) ++ events_of steps (after d t)) (after_all steps (after d t)))
      (append_assoc told (news_in of_frames service tei number (event_of d t) t.card) (news of_frames service tei number steps (after d t)))
      (steps-wait (events ++ option_to_list (event_of d t)) (after d t) (told ++ news_in of_frames service tei number (event_of d t) t.card) steps
      (step-waits events t told d w prompt.0 still.0 still.1) prompt.1 still.2))

told-low : (service : Service) (tei number : ℕ) (card : cards.Card) (n : ℕ) → state number service tei card ≡ Some n → n ≤ 8
told-low service tei number card n is = grind arith

waits-8 : (o : Observed) → (o.state ≡ 5) ⊎ ((o.state ≡ 6) ⊎ (o.state ≡ 8)) → runs T200 o ≡ true
waits-8 o is = grind arith

one-of-7 : (o : Observed) → o.state ≡ 7 → (runs T200 o ≡ true) ⊎ (runs T203 o ≡ true)
one-of-7 o is = grind (arith, idle-7)

module _ (c : Config) (t200 late first all now m : ℕ) (late_is : now ≤ m + late) where
  within-200 : (s e : ℕ) → Due200 c t200 late first all s e m → now ≤ limit c t200 late first all s
  within-200 s e h = omega (arith, h, late_is)

  within-203 : Due203 c t200 late first all m → now ≤ first
  within-203 h = omega (arith, h, late_is)

owed-is : (service : Service) (tei : ℕ) (release owes : Bool) (n : ℕ) → 5 ≤ n → n ≤ 8 → (n ≡ 5 → release ≡ owes) → owed service tei release n ≡ told_in n owes service tei
owed-is service tei release owes n low high same = go (four n (omega (arith, low)) high)
  where
    go : (n ≡ 4) ⊎ ((n ≡ 5) ⊎ ((n ≡ 6) ⊎ ((n ≡ 7) ⊎ (n ≡ 8)))) → owed service tei release n ≡ told_in n owes service tei
    go (inl is) = absurd (omega (arith, low, is))
    go (inr (inl is)) = ap (λ r. owed service tei r n) (same is) ∙ ap (owed service tei owes) is ∙ sym (ap (λ m. told_in m owes service tei) is)
    go (inr (inr (inl is))) = ap (owed service tei release) is ∙ sym (ap (λ m. told_in m owes service tei) is)
    go (inr (inr (inr (inl is)))) = ap (owed service tei release) is ∙ sym (ap (λ m. told_in m owes service tei) is)
    go (inr (inr (inr (inr is)))) = ap (owed service tei release) is ∙ sym (ap (λ m. told_in m owes service tei) is)

pub a-dead-line-is-told : ADeadLineIsTold of_frames
a-dead-line-is-told service c lengths late number tei from before steps ranged within low prompt_before prompt at_from still =
    ended c lengths late t.clock.now service tei from low high owes (o_last).owed (o_last).state (after_all steps t).clock.now (news of_frames service tei number steps t) last.told_is waits-7 waits-5 last.phase.least last.phase.most
  where
    t : TimedCard
    t = after_all before (fresh c lengths)

    events : List Event
    events = events_of before (fresh c lengths)

    g : Goes c lengths late number ranged within service tei (events_of before (fresh c lengths)) (after_all before (fresh c lengths))
    g = before-goes c lengths late number ranged within service tei [] (fresh c lengths) before (begins c lengths late number ranged within service tei) prompt_before

    o : Observed
    o = seen c lengths late number ranged within service tei events

    state_is : (seen c lengths late number ranged within service tei (events_of before (fresh c lengths))).state ≡ from
    state_is = state-is c (events_of before (fresh c lengths)) number ranged g.stands.all within service tei from (ap (state number service tei) (sym g.stands.card) ∙ at_from)

    owes : Bool
    owes = owed_by number service tei t.card

    so-owed : from ≡ 5 → (seen c lengths late number ranged within service tei (events_of before (fresh c lengths))).owed ≡ owed_by number service tei (after_all before (fresh c lengths)).card
    so-owed is =
        owed-so c (events_of before (fresh c lengths)) number ranged g.stands.all within service tei (ap (state number service tei) (sym g.stands.card) ∙ at_from ∙ ap Some is)
        ∙ ap (owed_by number service tei) (sym g.stands.card)

    high : from ≤ 8
    high = told-low service tei number (after_all before (fresh c lengths)).card from at_from

    first : ℕ
    first = F c lengths late t.clock.now from

    all : ℕ
    all = A c lengths late t.clock.now from

    w : Waits c lengths late number ranged within service tei first all (told_in from owes service tei) events t []
    w = record {
      goes = g;
      on = on-where c (events_of before (fresh c lengths)) number ranged g.stands.all within service tei (ap is_some (ap (state number service tei) (sym g.stands.card) ∙ at_from));
      phase = record { least = omega (arith, low, state_is); most = omega (arith, high, state_is) };
      told_is = ap (owed service tei o.owed) state_is ∙ owed-is service tei o.owed owes from low high so-owed;
      wait = λ up. start-wait c lengths late t.clock.now from low high (ap (nat_le 7) (sym state_is) ∙ up);
      t200 = λ run. let d = g.timers_are T200 run in (
        d.0,
        d.1,
        d.2,
        subst (λ s. Due200 c lengths.t200 late (F c lengths late t.clock.now from) (A c lengths late t.clock.now from) s o.expiries d.0) (sym state_is)
            (start-200 c lengths late t.clock.now from low high o.expiries d.0 d.3),
      );
      t203 = λ run. let d = g.timers_are T203 run in let at_7 = never-both o run in (
        d.0,
        d.1,
        d.2,
        subst (λ n. Due203 c lengths.t200 late (F c lengths late t.clock.now n) (A c lengths late t.clock.now n) d.0) (sym at_7.0 ∙ state_is) (start-203 c lengths late t.clock.now d.0 d.3),
      );
    }

    last : Waits c lengths late number ranged within service tei first all (told_in from owes service tei) (events ++ events_of steps t) (after_all steps t) (news of_frames service tei number steps t)
    last = steps-wait c lengths late number ranged within service tei first all (told_in from owes service tei) events t [] steps w prompt still

    o_last : Observed
    o_last = seen c lengths late number ranged within service tei (events ++ events_of steps t)

    by-200 : (n : ℕ) → o_last.state ≡ n → runs T200 o_last ≡ true → (after_all steps t).clock.now ≤ limit c lengths.t200 late first all n
    by-200 n is run =
        let d = last.t200 run in
        subst (λ s. (after_all steps t).clock.now ≤ limit c lengths.t200 late first all s) is
        (within-200 c lengths.t200 late first all (after_all steps t).clock.now d.0 d.2 o_last.state o_last.expiries d.3)

    waits-7 : (o_last.state ≡ 7) ⊎ (o_last.state ≡ 8) → (after_all steps t).clock.now ≤ F c lengths late t.clock.now from
    waits-7 (inl is) = ⊎_elim (λ run. by-200 7 is run) (λ run. let d = last.t203 run in within-203 c lengths.t200 late first all (after_all steps t).clock.now d.0 d.2 d.3) (one-of-7 o_last is)
    waits-7 (inr is) = by-200 8 is (waits-8 o_last (inr (inr is)))

    waits-5 : (o_last.state ≡ 5) ⊎ (o_last.state ≡ 6) → (after_all steps t).clock.now ≤ A c lengths late t.clock.now from
    waits-5 (inl is) = by-200 5 is (waits-8 o_last (inl is))
    waits-5 (inr is) = by-200 6 is (waits-8 o_last (inr (inl is)))
