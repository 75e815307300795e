-- A step that a card serves with its own timers, of whichever kind, and a list of them.
use Rattle.std.proofs.Common.{arith, ◌≡◌, ◌⊎◌, ℕ, ◌+◌, ◌^◌, ◌<◌, ◌≤◌, ◌||◌, nat_lt, nat_le, Bool, true, false, cond, List, [], ◌∷◌, ◌++◌, length, take, map, slice_get, Option, Some, None, option_map, refl, sym, ap, ◌∙◌, subst}
use Rattle.std.proofs.lemmas.Bool.Decides.{nat_tests}
use Rattle.std.proofs.lemmas.List.{append-nil}
use Rattle.std.proofs.lemmas.Option.{none-some, same_Some}
use Rattle.std.specs.Prelude.{option_to_list, Result, Ok, Err, OnOk, OnErr, is_err}
use Rattle.lapd_card.specs.Kinds.{config_of, counters_of, kind_of}
use Rattle.lapd_card.specs.Sink.{Taken, one_failure_more}
use Rattle.lapd_card.proofs.Taken.{Taken-more, at_err, at_ok, missed_one, one-more}
use Rattle.lapd_clock.specs.Timer.{Timer}
use Rattle.lapd_clock.specs.Timers.{Expiry}
use Rattle.lapd_count.specs.declared.counters.Counters.{Counters}
use Rattle.lapd_timed.specs.Places.{named_by}
use Rattle.lapd_timed.specs.Stands.{moment_of, ChangesStandIn, TimersStandIn}
use Rattle.lapd_timed.specs.declared.timed_card.TimedCard.{TimedCard}
use Rattle.lapd_timed.proofs.Steps.{moment-is}
use Rattle.model_card.specs.Card as cards
use Rattle.model_card.specs.Counted.{all_counted}
use Rattle.model_timed.specs.Changes.{Marks, marked}
unfoldable use Rattle.model_timed.specs.Changes.{marks_after}
use Rattle.model_timed.specs.Clock.{Clock, due}
use Rattle.model_timed.specs.Timed.{Timed, Step, happens, time, falls_due, after, event_of, expiry_at}
use Rattle.laws_promises.specs.TimedReply.{Answer, went, wrong_time, none_due, fell_due}
use Rattle.laws_promises.specs.TimedRun.{DrivenKind, HasRunAs, IsKept, Serves, answer, answer_due, if_served, is_wrong, served}
unfoldable use Rattle.laws_promises.specs.TimedRun.{served_all, replies, events_in, steps_in}
use Rattle.laws_promises.proofs.TimedRunning.{events-more, led, noted-more, replies-more, served-more}

-- What the proofs ask of a kind: the timers of a card stand for the clock; events lead its machine on one by one; and each is counted
-- after the others.
pub record IsDriven {Card Event : Type 0} (d : DrivenKind Card Event) : Type 0 where
  pub timers : (c : TimedCard) (t : Timed Card) → d.Stand c t → (m : cards.Card) × TimersStandIn c.timers m t.clock
  pub led_nothing : (card : Card) → d.leads card [] ≡ card
  pub led_one : (card : Card) (e : Event) (es : List Event) → d.leads card (e ∷ es) ≡ d.leads (d.kind.after e card) es
  pub none_counted : (all : List Counters) (card : Card) → all_counted all (d.counts card []) ≡ all
  pub one_counted : (all : List Counters) (card : Card) (es : List Event) (e : Event)
      → all_counted all (d.counts card (es ++ e ∷ [])) ≡ all_counted (all_counted all (d.counts card es)) (d.counts (d.leads card es) (e ∷ []))

-- ---- one step

-- An event moves a card on within its kind, is counted, and is answered so.
pub record Happened {Card Event : Type 0} (d : DrivenKind Card Event) (e : Event) (reply : Answer) (old new : TimedCard) : Type 0 where
  pub kind : kind_of new.card ≡ kind_of old.card
  pub config : config_of new.card ≡ config_of old.card
  pub counted : (t : Timed Card) → d.Stand old t → counters_of new.card ≡ all_counted (counters_of old.card) (d.counts t.card (e ∷ []))
  pub answers : (t : Timed Card) → d.Stand old t → reply ≡ d.says e t.card

-- The moment of a card.
abbrev pub IsNow : ℕ → TimedCard → Type 0
IsNow moment c = moment ≡ moment_of c.timers

-- What is noted of the links, if it was so of those of the card, is so after a step; and after one that is not refused.
abbrev pub IsNoted : {Card Event : Type 0} → DrivenKind Card Event → Step Event → TimedCard → TimedCard → Type 0
IsNoted d s old new = (t : Timed _) (marks : Marks) → d.Stand old t → ChangesStandIn old.timers (d.sees t.card) marks
    → ChangesStandIn new.timers (d.sees (served d.kind s t).card) (marks_after d.kind d.sees (if_served t.clock.now s) t marks)

abbrev pub IsMarked : {Card Event : Type 0} → DrivenKind Card Event → Step Event → TimedCard → TimedCard → Type 0
IsMarked d s old new = (t : Timed _) (marks : Marks) → d.Stand old t → ChangesStandIn old.timers (d.sees t.card) marks
    → ChangesStandIn new.timers (d.sees (after d.kind s t).card) (marked d.sees (after d.kind s t) marks)

-- A step leads a card so, whose moment is this then, and is answered so.
pub record Led {Card Event : Type 0} (d : DrivenKind Card Event) (s : Step Event) (old new : TimedCard) (moment : ℕ) (reply : Answer) : Type 0 where
  pub kind : kind_of new.card ≡ kind_of old.card
  pub config : config_of new.card ≡ config_of old.card
  pub stands : (t : Timed Card) → d.Stand old t → d.Stand new (served d.kind s t)
  pub counted : (t : Timed Card) → d.Stand old t → counters_of new.card ≡ all_counted (counters_of old.card) (d.counts t.card (option_to_list (event_of d.kind s t)))
  pub noted : IsNoted d s old new
  pub now : IsNow moment new
  pub answers : (t : Timed Card) → d.Stand old t → reply ≡ answer d.kind d.says s t

wrong-is : (bound moment now : ℕ) → (moment < now) ⊎ (bound ≤ moment) → (nat_lt moment now || nat_le bound moment) ≡ true
wrong-is bound moment now is = grind (arith, nat_tests)

right-is : (bound moment now : ℕ) → ((moment < now) ⊎ (bound ≤ moment) → ⊥) → (nat_lt moment now || nat_le bound moment) ≡ false
right-is bound moment now no_such = go (nat_lt moment now || nat_le bound moment) refl
  where
    go : (b : Bool) → (nat_lt moment now || nat_le bound moment) ≡ b → b ≡ false
    go false is = refl
    go true is = absurd (no_such (grind (arith, nat_tests)))

on-ok : {T E : Type 0} (r : Result T E) (P Q : Type 0) → (P → Q) → OnOk r P → OnOk r Q
on-ok (Ok x) P Q f p = f p
on-ok (Err x) P Q f p = p

on-err : {T E : Type 0} (r : Result T E) (P Q : Type 0) → (P → Q) → OnErr r P → OnErr r Q
on-err (Ok x) P Q f p = p
on-err (Err x) P Q f p = f p

always-ok : {T E : Type 0} (r : Result T E) (P : Type 0) → P → OnOk r P
always-ok (Ok x) P p = p
always-ok (Err x) P p = tt

always-err : {T E : Type 0} (r : Result T E) (P : Type 0) → P → OnErr r P
always-err (Ok x) P p = tt
always-err (Err x) P p = p

module _ {Card Event : Type 0} (d : DrivenKind Card Event) where
  -- what happens
  pub led-by-event : (e : Event) (reply : Answer) (old new : TimedCard) (moment : ℕ) → Happened d e reply old new → ((t : Timed Card) → d.Stand old t → d.Stand new (after d.kind (happens e) t)) → IsMarked d (happens e) old new → IsNow moment new
      → Led d (happens e) old new moment reply
  unfolding marks_after
  led-by-event e reply old new moment happened stands marked now =
      record { kind = happened.kind; config = happened.config; stands = stands; counted = happened.counted; noted = marked; now = now; answers = happened.answers }

  -- a timer that falls due
  event-due : (o : Option Expiry) (line : ℕ) (timer : Timer) → Some (line, timer) ≡ option_map named_by o → option_map (expiry_at d.kind) o ≡ Some (d.kind.expiry line timer)
  event-due None line timer is = absurd (none-some (line, timer) (sym is))
  event-due (Some x) line timer is = ap (λ (n : ℕ × Timer). Some (d.kind.expiry n.0 n.1)) (sym (same_Some (line, timer) (named_by x) is))

  answer-is-due : (o : Option Expiry) (line : ℕ) (timer : Timer) (card : Card) → Some (line, timer) ≡ option_map named_by o
      → fell_due timer (d.says (d.kind.expiry line timer) card) ≡ answer_due d.kind d.says o card
  answer-is-due None line timer card is = absurd (none-some (line, timer) (sym is))
  answer-is-due (Some x) line timer card is = ap (λ (n : ℕ × Timer). fell_due n.1 (d.says (d.kind.expiry n.0 n.1) card)) (same_Some (line, timer) (named_by x) is)

  none-due : (o : Option Expiry) → None ≡ option_map named_by o → o ≡ None
  none-due None is = refl
  none-due (Some x) is = absurd (none-some (named_by x) is)

  module _ (is_driven : IsDriven d) where
    -- where nothing happens, nothing is counted
    counted-none : (all new : List Counters) (card : Card) (o : Option Event) → o ≡ None → new ≡ all → new ≡ all_counted all (d.counts card (option_to_list o))
    counted-none all new card o is same = subst (λ x. new ≡ all_counted all (d.counts card (option_to_list x))) (sym is) (same ∙ sym (is_driven.none_counted all card))

    is-due : (old : TimedCard) (t : Timed Card) → d.Stand old t → (o : Option (ℕ × Timer)) → ((m : cards.Card) (c : Clock) → TimersStandIn old.timers m c → o ≡ option_map named_by (due c)) → o ≡ option_map named_by (due t.clock)
    is-due old t s o is = is (is_driven.timers old t s).0 t.clock (is_driven.timers old t s).1

    pub led-by-due : (line : ℕ) (timer : Timer) (reply : Answer) (old new : TimedCard) (moment : ℕ) → ((m : cards.Card) (c : Clock) → TimersStandIn old.timers m c → Some (line, timer) ≡ option_map named_by (due c))
        → Happened d (d.kind.expiry line timer) reply old new → ((t : Timed Card) → d.Stand old t → d.Stand new (after d.kind falls_due t)) → IsMarked d falls_due old new → IsNow moment new
        → Led d falls_due old new moment (fell_due timer reply)
    unfolding marks_after
    led-by-due line timer reply old new moment is happened stands marked now = record {
      kind = happened.kind;
      config = happened.config;
      stands = stands;
      noted = marked;
      counted = λ t s.
          subst (λ o. counters_of new.card ≡ all_counted (counters_of old.card) (d.counts t.card (option_to_list o))) (sym (event-due (due t.clock) line timer (is-due old t s (Some (line, timer)) is)))
          (happened.counted t s);
      now = now;
      answers = λ t s. ap (fell_due timer) (happened.answers t s) ∙ answer-is-due (due t.clock) line timer t.card (is-due old t s (Some (line, timer)) is);
    }

    -- and none
    pub led-by-none-due : (old new : TimedCard) (moment : ℕ) → ((m : cards.Card) (c : Clock) → TimersStandIn old.timers m c → None ≡ option_map named_by (due c)) → new ≡ old
        → ((t : Timed Card) → d.Stand old t → d.Stand new (after d.kind falls_due t)) → IsMarked d falls_due old new → IsNow moment new → Led d falls_due old new moment none_due
    unfolding marks_after
    led-by-none-due old new moment is same stands marked now = record {
      kind = ap (λ (c : TimedCard). kind_of c.card) same;
      config = ap (λ (c : TimedCard). config_of c.card) same;
      stands = stands;
      noted = marked;
      counted = λ t s. counted-none (counters_of old.card) (counters_of new.card) t.card (option_map (expiry_at d.kind) (due t.clock))
          (ap (option_map (expiry_at d.kind)) (none-due (due t.clock) (is-due old t s None is))) (ap (λ (c : TimedCard). counters_of c.card) same);
      now = now;
      answers = λ t s. ap (λ o. answer_due d.kind d.says o t.card) (sym (none-due (due t.clock) (is-due old t s None is)));
    }

    -- a moment, and one that is refused
    wrong-there : (old : TimedCard) (t : Timed Card) → d.Stand old t → (moment : ℕ) → (moment < t.clock.now) ⊎ (2 ^ 63 ≤ moment) → (moment < moment_of old.timers) ⊎ (2 ^ 63 ≤ moment)
    wrong-there old t s moment wrong = subst (λ k. (moment < k) ⊎ (2 ^ 63 ≤ moment)) (moment-is old.timers (is_driven.timers old t s).0 t.clock (is_driven.timers old t s).1) wrong

    pub led-by-time : (moment : ℕ) (old new : TimedCard) (n : ℕ) → new.card ≡ old.card → ((t : Timed Card) → d.Stand old t → d.Stand new (after d.kind (time moment) t)) → IsMarked d (time moment) old new
        → ((moment < moment_of old.timers) ⊎ (2 ^ 63 ≤ moment) → ⊥) → IsNow n new → Led d (time moment) old new n went
    unfolding marks_after
    led-by-time moment old new n same stands marks_are right now = record {
      kind = ap kind_of same;
      config = ap config_of same;
      stands = λ t s. subst (λ b. d.Stand new (cond b t (after d.kind (time moment) t))) (sym (is t s)) (stands t s);
      counted = λ t s. counted-none (counters_of old.card) (counters_of new.card) t.card None refl (ap counters_of same);
      noted = λ t marks s were. subst (λ b. ChangesStandIn new.timers (d.sees (cond b t (after d.kind (time moment) t)).card) (marks_after d.kind d.sees (cond b [] (time moment ∷ [])) t marks)) (sym (is t s))
          (marks_are t marks s were);
      now = now;
      answers = λ t s. ap (λ b. cond b wrong_time went) (sym (is t s));
    }
      where
        is : (t : Timed Card) → d.Stand old t → is_wrong moment t.clock.now ≡ false
        is t s = right-is (2 ^ 63) moment t.clock.now (λ wrong. right (wrong-there old t s moment wrong))

    pub led-by-no-time : (moment : ℕ) (old new : TimedCard) (n : ℕ) → new ≡ old → (moment < moment_of old.timers) ⊎ (2 ^ 63 ≤ moment) → IsNow n new → Led d (time moment) old new n wrong_time
    unfolding marks_after
    led-by-no-time moment old new n same wrong now = record {
      kind = ap (λ (c : TimedCard). kind_of c.card) same;
      config = ap (λ (c : TimedCard). config_of c.card) same;
      stands = λ t s. subst (λ b. d.Stand new (cond b t (after d.kind (time moment) t))) (sym (is t s)) (subst (λ c. d.Stand c t) (sym same) s);
      counted = λ t s. counted-none (counters_of old.card) (counters_of new.card) t.card None refl (ap (λ (c : TimedCard). counters_of c.card) same);
      noted = λ t marks s were. subst (λ b. ChangesStandIn new.timers (d.sees (cond b t (after d.kind (time moment) t)).card) (marks_after d.kind d.sees (cond b [] (time moment ∷ [])) t marks)) (sym (is t s))
          (subst (λ c. ChangesStandIn c.timers (d.sees t.card) marks) (sym same) were);
      now = now;
      answers = λ t s. ap (λ b. cond b wrong_time went) (sym (is t s));
    }
      where
        is : (t : Timed Card) → d.Stand old t → is_wrong moment t.clock.now ≡ true
        is t s = wrong-is (2 ^ 63) moment t.clock.now (subst (λ k. (moment < k) ⊎ (2 ^ 63 ≤ moment)) (sym (moment-is old.timers (is_driven.timers old t s).0 t.clock (is_driven.timers old t s).1)) wrong)

    -- A step is served, if the sink is handed that reply with that moment.
    module _ {K E : Type 0} {takes misses : K → ℕ → Answer → K → Type 0} {failures : K → ℕ} where
      pub serves : (s : Step Event) (old new : TimedCard) (before then : K) (result : Result Unit E) (moment : ℕ) (reply : Answer) → Led d s old new moment reply
          → OnOk result (takes before moment reply then) → OnOk result (failures then ≡ failures before)
          → OnErr result (misses before moment reply then) → OnErr result (failures then ≡ one_failure_more (failures before))
          → Serves d takes misses failures s old new before then result
      serves s old new before then result moment reply led taken none_failed missed failed = record {
        kind = led.kind;
        config = led.config;
        stands = led.stands;
        counted = led.counted;
        noted = led.noted;
        failed = failed;
        not_failed = none_failed;
        taken = on-ok result _ _ (handed takes) taken;
        not_taken = on-err result _ _ (handed misses) missed;
      }
        where
          handed : (P : K → ℕ → Answer → K → Type 0) → P before moment reply then → (t : Timed Card) → d.Stand old t → P before (served d.kind s t).clock.now (answer d.kind d.says s t) then
          handed P p t stood =
              let u = served d.kind s t in
              let there = is_driven.timers new u (led.stands t stood) in
              subst (λ n. P before n (answer d.kind d.says s t) then) (led.now ∙ sym (moment-is new.timers there.0 u.clock there.1)) (subst (λ a. P before moment a then) (led.answers t stood) p)

-- A card that stands for no machine of a kind serves any step of it.
module _ {Card Event C F K E : Type 0} {takes misses : K → ℕ → Answer → K → Type 0} {failures : K → ℕ} (d : DrivenKind Card Event) (other : DrivenKind C F) where
  pub serves-none : (s : Step Event) (x : Step F) (old new : TimedCard) (before then : K) (result : Result Unit E) → ((t : Timed C) → other.Stand old t → ⊥)
      → Serves d takes misses failures s old new before then result → Serves other takes misses failures x old new before then result
  serves-none s x old new before then result none serves = record {
    kind = serves.kind;
    config = serves.config;
    stands = λ t stood. absurd (none t stood);
    counted = λ t stood. absurd (none t stood);
    noted = λ t marks stood were. absurd (none t stood);
    failed = serves.failed;
    not_failed = serves.not_failed;
    taken = always-ok result _ (λ t stood. absurd (none t stood));
    not_taken = always-err result _ (λ t stood. absurd (none t stood));
  }

-- Nor does it do anything.
pub led-by-nothing : {Card Event : Type 0} (d : DrivenKind Card Event) (s : Step Event) (old new : TimedCard) (n : ℕ) (reply : Answer) → new ≡ old → ((t : Timed Card) → d.Stand old t → ⊥) → IsNow n new → Led d s old new n reply
led-by-nothing d s old new n reply same none now = record {
  kind = ap (λ (c : TimedCard). kind_of c.card) same;
  config = ap (λ (c : TimedCard). config_of c.card) same;
  stands = λ t stood. absurd (none t stood);
  counted = λ t stood. absurd (none t stood);
  noted = λ t marks stood were. absurd (none t stood);
  now = now;
  answers = λ t stood. absurd (none t stood);
}

-- ---- a list of steps

-- The steps so far have been served.
pub record SoFar {Card Event K : Type 0} (d : DrivenKind Card Event) (takes : K → ℕ → Answer → K → Type 0) (failures : K → ℕ) (old new : TimedCard) (before then : K) (steps : List (Step Event)) : Type 0 where
  pub kind : kind_of new.card ≡ kind_of old.card
  pub config : config_of new.card ≡ config_of old.card
  pub none_failed : failures then ≡ failures before
  pub ran : (t : Timed Card) → d.Stand old t → d.Stand new (served_all d.kind steps t)
  pub kept : (t : Timed Card) → d.Stand old t → IsKept d old new t steps
  pub taken : (t : Timed Card) → d.Stand old t → Taken takes before (replies d.kind d.says steps t) then

module _ {Card Event : Type 0} (d : DrivenKind Card Event) (is_driven : IsDriven d) where
  -- the events lead the card where it is
  pub events-led : (t : Timed Card) (steps : List (Step Event)) → (served_all d.kind steps t).card ≡ d.leads t.card (events_in d.kind steps t)
  events-led t steps = led d.kind d.leads is_driven.led_nothing is_driven.led_one steps t

  -- one event more, or none, is counted after others
  counted-then : (all : List Counters) (card : Card) (events : List Event) (u : Card) (o : Option Event) → u ≡ d.leads card events
      → all_counted all (d.counts card (events ++ option_to_list o)) ≡ all_counted (all_counted all (d.counts card events)) (d.counts u (option_to_list o))
  counted-then all card events u None is = ap (λ es. all_counted all (d.counts card es)) (append-nil events) ∙ sym (is_driven.none_counted (all_counted all (d.counts card events)) u)
  counted-then all card events u (Some e) is = is_driven.one_counted all card events e ∙ ap (λ c. all_counted (all_counted all (d.counts card events)) (d.counts c (e ∷ []))) (sym is)

  pub none-yet : {K : Type 0} {takes : K → ℕ → Answer → K → Type 0} {failures : K → ℕ} (old : TimedCard) (before : K) → SoFar d takes failures old old before before []
  unfolding served_all replies events_in steps_in marks_after
  none-yet old before = record {
    kind = refl;
    config = refl;
    none_failed = refl;
    ran = λ t s. s;
    kept = λ t s. record { counted = sym (is_driven.none_counted (counters_of old.card) t.card); noted = λ marks were. were };
    taken = λ t s. refl;
  }

module _ {Card Event K : Type 0} {takes misses : K → ℕ → Answer → K → Type 0} {failures : K → ℕ} (d : DrivenKind Card Event) (is_driven : IsDriven d) where
  module _ (old : TimedCard) (before : K) where
    module _ {E : Type 0} (mid new : TimedCard) (between then : K) (result : Result Unit E) (steps : List (Step Event)) (so_far : SoFar d takes failures old mid before between steps) (s : Step Event)
        (serves : Serves d takes misses failures s mid new between then result) where
      more-ran : (t : Timed Card) → d.Stand old t → d.Stand new (served_all d.kind (steps ++ s ∷ []) t)
      more-ran t stood = subst (d.Stand new) (sym (served-more d.kind steps s t)) (serves.stands (served_all d.kind steps t) (so_far.ran t stood))

      more-counted : (t : Timed Card) → d.Stand old t → counters_of new.card ≡ all_counted (counters_of old.card) (d.counts t.card (events_in d.kind (steps ++ s ∷ []) t))
      more-counted t stood =
          let u = served_all d.kind steps t in
          serves.counted u (so_far.ran t stood)
          ∙ ap (λ all. all_counted all (d.counts u.card (option_to_list (event_of d.kind s u)))) (so_far.kept t stood).counted
          ∙ sym (counted-then d is_driven (counters_of old.card) t.card (events_in d.kind steps t) u.card (event_of d.kind s u) (events-led d is_driven t steps))
          ∙ ap (λ es. all_counted (counters_of old.card) (d.counts t.card es)) (sym (events-more d.kind steps s t))

      more-noted : (t : Timed Card) → d.Stand old t → (marks : Marks) → ChangesStandIn old.timers (d.sees t.card) marks
          → ChangesStandIn new.timers (d.sees (served_all d.kind (steps ++ s ∷ []) t).card) (marks_after d.kind d.sees (steps_in d.kind (steps ++ s ∷ []) t) t marks)
      more-noted t stood marks were =
          let u = served_all d.kind steps t in
          subst (λ v. ChangesStandIn new.timers (d.sees (Timed.card v)) (marks_after d.kind d.sees (steps_in d.kind (steps ++ s ∷ []) t) t marks)) (sym (served-more d.kind steps s t))
          (subst (λ all. ChangesStandIn new.timers (d.sees (served d.kind s u).card) all) (sym (noted-more d.kind d.sees steps s t marks))
          (serves.noted u (marks_after d.kind d.sees (steps_in d.kind steps t) t marks) (so_far.ran t stood) ((so_far.kept t stood).noted marks were)))

      more-kept : (t : Timed Card) → d.Stand old t → IsKept d old new t (steps ++ s ∷ [])
      more-kept t stood = record { counted = more-counted t stood; noted = more-noted t stood }

      one-more-served : is_err result ≡ false → SoFar d takes failures old new before then (steps ++ s ∷ [])
      one-more-served took = record {
        kind = serves.kind ∙ so_far.kind;
        config = serves.config ∙ so_far.config;
        none_failed = at_ok result _ took serves.not_failed ∙ so_far.none_failed;
        ran = more-ran;
        kept = more-kept;
        taken = λ t stood.
            subst (λ rs. Taken takes before rs then) (sym (replies-more d.kind d.says steps s t))
            (Taken-more takes before between then (replies d.kind d.says steps t) _ _ (so_far.taken t stood) (at_ok result _ took serves.taken (served_all d.kind steps t) (so_far.ran t stood)));
      }

      -- the sink missed the reply to a step of a list
      missed-one : (all : List (Step Event)) (at : ℕ) → take at all ≡ steps → take (at + 1) all ≡ steps ++ s ∷ [] → at < length all → is_err result ≡ true
          → HasRunAs d takes misses failures old new all before then (Err (record { at = at }))
      missed-one all at front one_more within missed =
          missed_one (record { at = at }) within
          (at_err result _ missed serves.failed ∙ ap one_failure_more so_far.none_failed)
          (λ t stood. subst (λ es. d.Stand new (served_all d.kind es t)) (sym one_more) (more-ran t stood))
          (λ t stood. record {
            line = _;
            reply = _;
            next =
                ap (λ es. replies d.kind d.says es t) one_more ∙ replies-more d.kind d.says steps s t
                ∙ ap (λ es. replies d.kind d.says es t ++ ((served d.kind s (served_all d.kind steps t)).clock.now, answer d.kind d.says s (served_all d.kind steps t)) ∷ []) (sym front);
            before = between;
            taken = subst (λ es. Taken takes before (replies d.kind d.says es t) between) (sym front) (so_far.taken t stood);
            missed = at_err result _ missed serves.not_taken (served_all d.kind steps t) (so_far.ran t stood);
          })
          (λ t stood. subst (IsKept d old new t) (sym one_more) (more-kept t stood))

    -- A step of a list that are those of a list of events: it is served, and its reply taken or missed.
    module _ {X E : Type 0} (step : X → Step Event) (events : List X) (at : ℕ) (e : X) (is : slice_get events at ≡ Some e) (mid new : TimedCard) (between then : K) (result : Result Unit E)
        (so_far : SoFar d takes failures old mid before between (take at (map step events))) (serves : Serves d takes misses failures (step e) mid new between then result) where
      pub served-here : is_err result ≡ false → SoFar d takes failures old new before then (take (at + 1) (map step events))
      served-here took =
          subst (SoFar d takes failures old new before then) (sym (one-more step events at e is)) (one-more-served mid new between then result (take at (map step events)) so_far (step e) serves took)

      pub missed-here : at < length (map step events) → is_err result ≡ true → HasRunAs d takes misses failures old new (map step events) before then (Err (record { at = at }))
      missed-here within missed =
          missed-one mid new between then result (take at (map step events)) so_far (step e) serves (map step events) at refl (one-more step events at e is) within missed

    -- all have been served
    pub all-served : (new : TimedCard) (then : K) (steps : List (Step Event)) (count : ℕ) → count ≡ length steps → SoFar d takes failures old new before then steps
        → HasRunAs d takes misses failures old new steps before then (Ok count)
    all-served new then steps count is so_far = record {
      ok = is;
      at = _;
      failed = _;
      not_failed = so_far.none_failed;
      ran = so_far.ran;
      taken = so_far.taken;
      counters = so_far.kept;
      stopped = _;
      taken_before = _;
      counters_before = _;
    }
