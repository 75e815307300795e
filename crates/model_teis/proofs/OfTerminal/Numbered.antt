-- Each message that is made has the next reference number, and the numbers go on once for each.
use Rattle.model_teis.proofs.OfTerminal.Vocabulary.{◌≡◌, ℕ, zero, suc, ◌+◌, ◌<◌, ◌≤◌, inl, inr, Bool, true, false, cond, List, [], ◌∷◌, ◌++◌, length, get_or, filter, max, position, position-Some, fold, Option, Some, None, refl, sym, subst, ap, ◌∙◌, arith, All, All-append, All-cons, All-nil, All-set, All-filter_by, list_any, count_by, sum_by-set, sum_by_push, Terminal, Procedure, Message}
use Rattle.model_teis.proofs.OfTerminal.Vocabulary.{IdentityRequest, IdentityCheckResponse, IdentityVerify, is_other, is_request, is_response, is_verified, is_verify, next_number, put_at, with_verify}
use Rattle.model_teis.proofs.OfTerminal.Counted.{count-filter}
use Rattle.model_teis.proofs.OfTerminal.Walk.{OfEvents, of_event}
use Rattle.model_teis.specs.Steps.{◌then◌, nothing_happens}
use Rattle.model_teis.specs.terminal.Words.{Course, begun, ask, end_procedure, end_verifying_of, is_answered, leave, respond, send_response}
use Rattle.model_teis.specs.terminal.Rows.{answer, answered, end_if_any, take_off, withdraw_all}
use Rattle.model_teis.specs.terminal.Events.{Event}
use Rattle.model_teis.specs.terminal.Laws.{GoesOn, IsKnown, NumbersGoOn, has_number}
unfoldable use Rattle.model_teis.specs.terminal.Numbers.{number_after}

same_read : (waiting : List Message) (k : ℕ) (d : Message) → k < length waiting → get_or waiting k (get_or waiting k d) ≡ get_or waiting k d
same_read [] k d l = absurd (omega arith)
same_read (message ∷ waiting) zero d l = refl
same_read (message ∷ waiting) (suc k) d l = same_read waiting k d (omega arith)

-- what waited before is known, and stays so however far the numbers go on
pub all_known : (m : Terminal) (count : ℕ) → All (IsKnown m count) m.waiting
all_known m count k d l = inl (k, l, same_read m.waiting k d l)

further : (m : Terminal) (count : ℕ) (message : Message) → IsKnown m count message → IsKnown m (count + 1) message
further m count message (inl there) = inl there
further m count message (inr (inl (i, low, is))) = inr (inl (i, omega arith, is))
further m count message (inr (inr none)) = inr (inr none)

all_further : (m : Terminal) (count : ℕ) (waiting : List Message) → All (IsKnown m count) waiting → All (IsKnown m (count + 1)) waiting
all_further m count waiting all k d l = further m count (get_or waiting k d) (all k d l)

all_kept : (m : Terminal) (count : ℕ) (keep : Message → Bool) (waiting : List Message) → All (IsKnown m count) waiting → All (IsKnown m count) (filter keep waiting)
all_kept m count keep waiting all = All-filter_by keep (IsKnown m count) (IsKnown m count) (λ message passes known. known) waiting all

-- one more waits
all_more : (m : Terminal) (count : ℕ) (message : Message) (waiting : List Message) → IsKnown m count message → All (IsKnown m count) waiting → All (IsKnown m count) (waiting ++ message ∷ [])
all_more m count message waiting known all = All-append (IsKnown m count) waiting (message ∷ []) all (All-cons (IsKnown m count) message [] known (All-nil (IsKnown m count)))

few_more : (message : Message) (waiting : List Message) → count_by has_number (waiting ++ message ∷ []) ≤ count_by has_number waiting + 1
few_more message waiting =
    let one : cond {A = ℕ} (has_number message) 1 0 ≤ 1 = elim (has_number message) as (λ b. cond {A = ℕ} b 1 0 ≤ 1) [ true ↦ omega arith | false ↦ omega arith ] in
    omega (arith, one, sum_by_push (λ other. cond {A = ℕ} (has_number other) 1 0) waiting message)

-- where an event has led: steps of an event that is under way
stays : (m : Terminal) (waiting : List Message) (now : Terminal) → now.number ≡ m.number → now.waiting ≡ waiting → All (IsKnown m 0) waiting → count_by has_number waiting ≤ count_by has_number m.waiting → GoesOn 0 m now
unfolding number_after
stays m waiting now number is all few = record {
  number = number;
  messages = subst (All (IsKnown m 0)) (sym is) all;
  each = omega (arith, subst (λ w. count_by has_number w ≤ count_by has_number m.waiting) (sym is) few);
}

pub as_it_was : (m : Terminal) → GoesOn 0 m m
as_it_was m = stays m m.waiting m refl refl (all_known m 0) (omega arith)

kept : (m : Terminal) (keep : Message → Bool) (now : Terminal) → now.number ≡ m.number → now.waiting ≡ filter keep m.waiting → GoesOn 0 m now
kept m keep now number is = stays m (filter keep m.waiting) now number is (all_kept m 0 keep m.waiting (all_known m 0)) (count-filter has_number keep m.waiting)

-- a TEI is asked for
first_known : (m : Terminal) → IsKnown m 1 (IdentityRequest m.number)
unfolding number_after
first_known m = inr (inl (0, omega arith, refl))

asked_known : (m : Terminal) (o : Option ℕ) → All (IsKnown m 1) (put_at (IdentityRequest m.number) m.waiting o)
asked_known m None = all_more m 1 (IdentityRequest m.number) m.waiting (first_known m) (all_known m 1)
asked_known m (Some place) = All-set (IsKnown m 1) m.waiting place (IdentityRequest m.number) (first_known m) (all_known m 1)

asked_few : (m : Terminal) (o : Option ℕ) → position is_request m.waiting ≡ o → count_by has_number (put_at (IdentityRequest m.number) m.waiting o) ≤ count_by has_number m.waiting + 1
asked_few m None at = few_more (IdentityRequest m.number) m.waiting
asked_few m (Some place) at =
    let d = IdentityRequest m.number in
    omega (arith, sum_by-set (λ other. cond {A = ℕ} (has_number other) 1 0) m.waiting place d d (position-Some is_request m.waiting place d at).0)

pub asks_on : (m : Terminal) (attempts : ℕ) → GoesOn 1 m (ask attempts (begun m)).now
unfolding number_after
asks_on m attempts = record {
  number = refl;
  messages = asked_known m (position is_request m.waiting);
  each = asked_few m (position is_request m.waiting) refl;
}

-- a TEI is verified: the verify has no number of its own
verified_on_queue : (m : Terminal) (tei : ℕ) (b : Bool) → (All (IsKnown m 0) (cond b m.waiting (m.waiting ++ IdentityVerify tei ∷ []))) × (count_by has_number (cond b m.waiting (m.waiting ++ IdentityVerify tei ∷ [])) ≤ count_by has_number m.waiting)
verified_on_queue m tei true = (all_known m 0, omega arith)
verified_on_queue m tei false =
    (all_more m 0 (IdentityVerify tei) m.waiting (inr (inr refl)) (all_known m 0), omega (arith, sum_by_push (λ other. cond {A = ℕ} (has_number other) 1 0) m.waiting (IdentityVerify tei)))

pub verifies_on : (m now : Terminal) (tei : ℕ) → now.number ≡ m.number → now.waiting ≡ with_verify tei m.waiting → GoesOn 0 m now
verifies_on m now tei number is = let all = verified_on_queue m tei (list_any is_verify m.waiting) in stays m (with_verify tei m.waiting) now number is all.0 all.1

-- checks are answered
record Counts (m : Terminal) (most : ℕ) (now : Terminal) : Type 0 where
  count : ℕ
  few : count ≤ most
  on : GoesOn count m now

ends : (m : Terminal) (most tei : ℕ) (c : Course) → Counts m most c.now → Counts m most (end_verifying_of tei c).now
ends m most tei c h =
    elim (is_verified tei c.now.procedure) as (λ b. Counts m most ((cond b end_procedure nothing_happens) c).now) [
      | true ↦ record {
        count = h.count;
        few = h.few;
        on = record {
          number = h.on.number;
          messages = all_kept m h.count is_response c.now.waiting h.on.messages;
          each = omega (arith, h.on.each, count-filter has_number is_response c.now.waiting);
        };
      }
      | false ↦ h
    ]

responds : (m : Terminal) (most tei : ℕ) (c : Course) → Counts m most c.now → Counts m (most + 1) (respond tei c).now
unfolding number_after
responds m most tei c h =
    elim (is_answered tei c.now) as (λ b. Counts m (most + 1) ((cond b nothing_happens (send_response tei)) c).now) [
      | true ↦ record { count = h.count; few = omega (arith, h.few); on = h.on }
      | false ↦
          let message = IdentityCheckResponse c.now.number tei in
          let later : suc h.count ≡ h.count + 1 = omega arith in
          record {
            count = h.count + 1;
            few = omega (arith, h.few);
            on = record {
              number = ap next_number h.on.number ∙ ap (λ n. number_after n m.number) later;
              messages = all_more m (h.count + 1) message c.now.waiting (inr (inl (h.count, omega arith, ap Some h.on.number))) (all_further m h.count c.now.waiting h.on.messages);
              each = omega (arith, h.on.each, few_more message c.now.waiting);
            };
          }
    ]

each_on_again : (m : Terminal) (teis : List ℕ) (most : ℕ) (c : Course) → Counts m most c.now → Counts m (most + length teis) (fold answered c teis).now
each_on_again m [] most c h = record { count = h.count; few = omega (arith, h.few); on = h.on }
each_on_again m (tei ∷ teis) most c h =
    let rest = each_on_again m teis (most + 1) (answer tei c) (responds m most tei (end_verifying_of tei c) (ends m most tei c h)) in
    record { count = rest.count; few = omega (arith, rest.few); on = rest.on }

answers_on : (m : Terminal) (teis : List ℕ) → length teis ≤ max 1 (length m.places) → Counts m (length m.places + 1) (fold answered (begun m) teis).now
answers_on m teis short =
    let all = each_on_again m teis 0 (begun m) (record { count = 0; few = omega arith; on = as_it_was m }) in
    record { count = all.count; few = omega (arith, all.few); on = all.on }

-- a TEI leaves
leaves_on : (m : Terminal) (tei : ℕ) → GoesOn 0 m (take_off tei (begun m)).now
unfolding number_after
leaves_on m tei =
    elim (is_verified tei m.procedure) as (λ b. GoesOn 0 m (leave tei ((cond b end_procedure nothing_happens) (begun m))).now) [
      | true ↦ record {
        number = refl;
        messages = all_kept m 0 (is_other tei) (filter is_response m.waiting) (all_kept m 0 is_response m.waiting (all_known m 0));
        each = omega (arith, count-filter has_number (is_other tei) (filter is_response m.waiting), count-filter has_number is_response m.waiting);
      }
      | false ↦ record { number = refl; messages = all_kept m 0 (is_other tei) m.waiting (all_known m 0); each = omega (arith, count-filter has_number (is_other tei) m.waiting) }
    ]

down_on : (m : Terminal) (o : Option Procedure) → GoesOn 0 m ((end_if_any o then withdraw_all) (begun m)).now
unfolding number_after
down_on m None = record { number = refl; messages = All-nil (IsKnown m 0); each = omega arith }
down_on m (Some procedure) = record { number = refl; messages = All-nil (IsKnown m 0); each = omega arith }

none : (m now : Terminal) → GoesOn 0 m now → Counts m (length m.places + 1) now
none m now on = record { count = 0; few = omega arith; on = on }

ways : (e : Event) (m : Terminal) → OfEvents e m (λ c. Counts m (length m.places + 1) c.now)
ways e m = record {
  is_unserved = none m m (as_it_was m);
  is_idle = none m m (as_it_was m);
  asks = λ attempts may least most. record { count = 1; few = omega arith; on = asks_on m attempts };
  verifies = λ tei on may. none m _ (verifies_on m _ tei refl refl);
  verifies_again = λ tei made runs few. none m _ (verifies_on m _ tei refl refl);
  takes = λ octets ri tei attempts place is heard runs off low at. none m _ (kept m is_response _ refl refl);
  is_denied = none m m (as_it_was m);
  answers = λ octets teis is all short. answers_on m teis short;
  is_removed = λ tei. none m _ (leaves_on m tei);
  is_told = none m m (as_it_was m);
  gives_up_asking = none m _ (kept m is_response _ refl refl);
  joins = λ tei place is off at. none m _ (stays m m.waiting _ refl refl (all_known m 0) (omega arith));
  leaves = λ tei. none m _ (leaves_on m tei);
  is_down = none m _ (down_on m m.procedure);
}

pub numbers_go_on : NumbersGoOn
numbers_go_on e m =
    let all = of_event e m (λ c. Counts m (length m.places + 1) c.now) (ways e m) in
    (all.count, all.few, all.on)
