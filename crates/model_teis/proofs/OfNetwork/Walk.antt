-- Every event ends in one of a few ways: the rows of the table are walked once, for any claim.
use Rattle.model_teis.proofs.OfNetwork.Vocabulary.{arith, ◌≡◌, ℕ, ◌≤◌, ◌==◌, nat_le, nat_tests, Bool, true, false, cond, not, is_some, List, [], ◌∷◌, Option, Some, None, refl, sym, subst, none-some, list_any, Refusal, Reading, Profile, AnnexB, by_reading, Heard, IdentityRequest, IdentityRequestOf, IdentityVerify, IdentityCheckResponse, IdentityAssigned, IdentityDenied, IdentityCheckRequest}
use Rattle.model_teis.proofs.OfNetwork.Vocabulary.{IdentityRemove}
use Rattle.model_teis.proofs.OfNetwork.Vocabulary.{heard_in, heard_of_type, responses_in}
use Rattle.model_teis.proofs.OfNetwork.Vocabulary.{is_on, free_place, free_tei, Management, Check, Period, First, Course, Step, begun, leave, note, check_is, check_is_due, begin_check, end_check, stop_check, no_check_is_due, lose_one, no_room, send, unserved, read_as, nothing_happens, assign, assign_new, assigns_for, answer_request, request, request_anew, remembered_in, counted}
use Rattle.model_teis.proofs.OfNetwork.Vocabulary.{responses, doubled, count, respond, respond_among, is_among, asks_for, verify_beside, hear, serve, expire, expire_period, expire_check, removed, join_at, is_checked, withdraw, end_if_any, Event, message, remove, disown, refusal_if, refusal, unless_refused, course}
use Rattle.lapd_frame.specs.declared.notes.Note.TheVariants.{Removed}
use Rattle.lapd_frame.specs.declared.refusals.Refusal.TheVariants.{NoLink, TeiTaken, TableFull, CheckRunning, ControlFull}
use Rattle.model_teis.specs.network.Events.{assign as assigning, check as checking, down, expiry, step}
use Rattle.model_teis.specs.network.Rows.{ask_once}
use Rattle.model_teis.specs.Information.{heard_by, looked_at}
use Rattle.model_teis.proofs.Tables.{same_number, not_not}

-- What a claim has to say of each way in which a message of a terminal ends,
pub record OfMessages (m : Management) (E : Course → Type 0) : Type 0 where
  pub is_unserved : E (unserved (begun m))
  pub is_lost : E (lose_one (begun m))
  pub is_denied : (ri tei : ℕ) → tei ≤ 127 → E (send (IdentityDenied ri tei) (begun m))
  pub comes_again : (ri tei : ℕ) → remembered_in ri m.remembered ≡ Some tei → E (send (IdentityAssigned ri tei) (begun m))
  pub is_new : (ri place tei : ℕ) → remembered_in ri m.remembered ≡ None → free_place m.places ≡ Some place → free_tei m.places ≡ Some tei
      → E (assign_new ri (Some place) (Some tei) (begun m))
  pub begins : (tei : ℕ) → is_on tei m.places ≡ true → m.check ≡ None → E (begin_check tei (begun m))
  pub is_later : (own : Check) (tei : ℕ) → m.reading ≡ AnnexB → is_on tei m.places ≡ true → m.check ≡ Some own → (own.tei == tei) ≡ false
      → E (check_is_due tei (send (IdentityCheckRequest tei) (begun m)))
  pub is_still_asked : (own : Check) (tei : ℕ) → m.reading ≡ AnnexB → is_on tei m.places ≡ true → m.check ≡ Some own → (own.tei == tei) ≡ false → E (check_is_due tei (begun m))
  pub is_counted : (own : Check) → m.check ≡ Some own → nat_le 2 (responses (counted own)) ≡ false → E (check_is (Some (counted own)) (begun m))
  pub is_doubled : (own : Check) → m.check ≡ Some own → E (doubled own.tei (begun m))

-- of each in which an expiry of T201 does,
pub record OfExpiries (m : Management) (E : Course → Type 0) : Type 0 where
  pub is_idle : m.check ≡ None → E (begun m)
  pub asks_again : (own : Check) → m.check ≡ Some own → E (expire_period own First (begun m))
  pub has_settled : (own : Check) → m.check ≡ Some own → E (begin_check own.tei (begun m))
  pub is_removed : (own : Check) → m.check ≡ Some own → E (leave own.tei (end_check (note (Removed own.tei) (begun m))))
  pub is_told : (own : Check) → m.reading ≡ AnnexB → m.check ≡ Some own → E (leave own.tei (end_check (send (IdentityRemove own.tei) (note (Removed own.tei) (begun m)))))
  pub ends : (own : Check) → m.check ≡ Some own → E (end_check (begun m))

-- and of all
pub record OfEvents (e : Event) (m : Management) (E : Course → Type 0) : Type 0 where
  pub messages : (octets : List ℕ) → e ≡ message octets → OfMessages m E
  pub expiries : OfExpiries m E
  pub is_refused : E (begun m)
  pub joins : (tei place : ℕ) → e ≡ assigning tei → is_on tei m.places ≡ false → free_place m.places ≡ Some place → E (join_at tei (Some place) (begun m))
  pub begins : (tei : ℕ) → is_on tei m.places ≡ true → m.check ≡ None → E (begin_check tei (begun m))
  pub leaves_checked : (own : Check) → m.check ≡ Some own → E (leave own.tei (end_check (send (IdentityRemove own.tei) (begun m))))
  pub leaves : (tei : ℕ) → is_on tei m.places ≡ true → is_checked tei m.check ≡ false → E (leave tei (send (IdentityRemove tei) (begun m)))
  pub disowns : (tei : ℕ) → e ≡ disown tei → E (send (IdentityRemove tei) (begun m))
  pub gives_up : m.check ≡ None → E (no_check_is_due (withdraw (begun m)))
  pub gives_up_checked : (own : Check) → m.check ≡ Some own → E (stop_check (no_check_is_due (withdraw (begun m))))

-- a test that does not refuse
not_refused : (b : Bool) (why : Refusal) (others : Option Refusal) → refusal_if b why others ≡ None → b ≡ false
not_refused b why others e = grind (arith, none-some)

refused_later : (b : Bool) (why : Refusal) (others : Option Refusal) → refusal_if b why others ≡ None → others ≡ None
refused_later b why others e = grind (arith, none-some)

-- Of the two readings one holds.
pub as_read : (E : Course → Type 0) (r : Reading) (profile annex_b : Course) → (r ≡ Profile → E profile) → (r ≡ AnnexB → E annex_b) → E (by_reading r profile annex_b)
as_read E Profile profile annex_b x y = x refl
as_read E AnnexB profile annex_b x y = y refl

-- A TEI of a terminal's choice is at most 126.
abbrev pub IsLow : Option Heard → Type 0
IsLow (Some (IdentityRequestOf ri tei)) = tei ≤ 126
IsLow other = Unit {0}

low-of : (type ri action : ℕ) → IsLow (heard_of_type type ri action)
low-of type ri action = grind (arith, nat_tests)

low-heard : (octets : List ℕ) → IsLow (heard_by heard_of_type octets)
low-heard [] = tt
low-heard (entity ∷ []) = tt
low-heard (entity ∷ high ∷ []) = tt
low-heard (entity ∷ high ∷ low ∷ []) = tt
low-heard (entity ∷ high ∷ low ∷ type ∷ []) = tt
low-heard (entity ∷ high ∷ low ∷ type ∷ last ∷ []) = grind (arith, low-of)
low-heard (entity ∷ high ∷ low ∷ type ∷ last ∷ sixth ∷ more) = tt

module _ (m : Management) (E : Course → Type 0) where
  -- one of two steps, and an event that is refused or not
  either : (b : Bool) (f g : Step) (c : Course) → (b ≡ true → E (f c)) → (b ≡ false → E (g c)) → E ((cond b f g) c)
  either b f g c x y = grind arith

  unless : (o : Option Refusal) (does : Step) → E (begun m) → (o ≡ None → E (does (begun m))) → E (unless_refused o does m)
  unless o does x y = grind arith

  -- an identity request, from its last case on
  of_new : OfMessages m E → (ri : ℕ) (place tei : Option ℕ) → remembered_in ri m.remembered ≡ None → free_place m.places ≡ place → free_tei m.places ≡ tei → E (assign_new ri place tei (begun m))
  of_new w ri place tei new at free = grind arith

  of_assign : OfMessages m E → (ri : ℕ) (o : Option ℕ) → remembered_in ri m.remembered ≡ o → E (assign ri o (begun m))
  of_assign w ri o is = grind (arith, of_new)

  of_answer : OfMessages m E → (ri : ℕ) → E (answer_request ri (begun m))
  of_answer w ri = grind (arith, either, of_assign)

  of_request : OfMessages m E → (ri : ℕ) → E (request ri (begun m))
  of_request w ri =
      as_read E m.reading (answer_request ri (begun m)) (request_anew ri (begun m)) (λ is. of_answer w ri)
      (λ is. either (list_any (assigns_for ri) m.waiting) unserved (answer_request ri) (begun m) (λ t. w.is_unserved) (λ f. of_answer w ri))

  -- a verify
  of_beside : OfMessages m E → (tei : ℕ) (o : Option Check) → is_on tei m.places ≡ true → m.check ≡ o → E (verify_beside tei o (begun m))
  of_beside w tei None on is = w.begins tei on is
  of_beside w tei (Some own) on is =
      elim (own.tei == tei) as (λ b. own.tei == tei ≡ b → E ((cond b unserved (read_as unserved (λ c. check_is_due tei (ask_once tei c)))) (begun m))) [
        | true ↦ λ e. w.is_unserved
        | false ↦ λ e. as_read E m.reading (unserved (begun m)) (check_is_due tei (ask_once tei (begun m))) (λ r. w.is_unserved) (λ r. asks (list_any (asks_for tei) m.waiting) r e)
      ] refl
    where
      asks : (b : Bool) → m.reading ≡ AnnexB → (own.tei == tei) ≡ false → E (check_is_due tei ((cond b nothing_happens (send (IdentityCheckRequest tei))) (begun m)))
      asks true r e = w.is_still_asked own tei r on is e
      asks false r e = w.is_later own tei r on is e

  -- a check response
  of_count : OfMessages m E → (own : Check) → m.check ≡ Some own → E (count own.tei (counted own) (begun m))
  of_count w own is = either (nat_le 2 (responses (counted own))) (doubled own.tei) (check_is (Some (counted own))) (begun m) (λ t. w.is_doubled own is) (λ f. w.is_counted own is f)

  of_respond : OfMessages m E → (tei : ℕ) (o : Option Check) → m.check ≡ o → E (respond tei o (begun m))
  of_respond w tei None is = w.is_unserved
  of_respond w tei (Some own) is =
      either (own.tei == tei) (count tei (counted own)) unserved (begun m)
      (λ t. subst (λ n. E (count n (counted own) (begun m))) (same_number own.tei tei t) (of_count w own is)) (λ f. w.is_unserved)

  of_among : OfMessages m E → (teis : Option (List ℕ)) (o : Option Check) → m.check ≡ o → E (respond_among teis o (begun m))
  of_among w teis None is = w.is_unserved
  of_among w teis (Some own) is = either (is_among own.tei teis) (count own.tei (counted own)) unserved (begun m) (λ t. of_count w own is) (λ f. w.is_unserved)

  -- and what else a terminal says
  of_of : OfMessages m E → (ri tei : ℕ) → tei ≤ 126 → E (read_as unserved (send (IdentityDenied ri tei)) (begun m))
  of_of w ri tei low = as_read E m.reading (unserved (begun m)) (send (IdentityDenied ri tei) (begun m)) (λ r. w.is_unserved) (λ r. w.is_denied ri tei (omega (arith, low)))

  pub of_serve : OfMessages m E → (o : Option Heard) (teis : Option (List ℕ)) → IsLow o → E (serve o teis (begun m))
  of_serve w (Some (IdentityRequest ri)) teis low = of_request w ri
  of_serve w (Some (IdentityRequestOf ri tei)) teis low = of_of w ri tei low
  of_serve w (Some (IdentityVerify tei)) teis low =
      either (is_on tei m.places) (verify_beside tei m.check) unserved (begun m) (λ on. of_beside w tei m.check on refl) (λ off. w.is_unserved)
  of_serve w (Some (IdentityCheckResponse tei)) teis low = of_respond w tei m.check refl
  of_serve w None teis low = as_read E m.reading (unserved (begun m)) (respond_among teis m.check (begun m)) (λ r. w.is_unserved) (λ r. of_among w teis m.check refl)

  pub of_hear : OfMessages m E → (octets : List ℕ) → E (hear octets (begun m))
  of_hear w octets = of_serve w (heard_in m.reading octets) (responses_in octets) (low-heard (looked_at m.reading octets))

  -- an expiry of T201
  of_removed : OfExpiries m E → (own : Check) → m.check ≡ Some own → E (removed own.tei (begun m))
  of_removed w own is =
      as_read (λ c. E (leave own.tei (end_check c))) m.reading (note (Removed own.tei) (begun m)) (send (IdentityRemove own.tei) (note (Removed own.tei) (begun m)))
      (λ r. w.is_removed own is) (λ r. w.is_told own r is)

  of_period : OfExpiries m E → (own : Check) (period : Period) → m.check ≡ Some own → E (expire_period own period (begun m))
  of_period w own period is = grind (arith, either, of_removed)

  of_expire_check : OfExpiries m E → (o : Option Check) → m.check ≡ o → E (expire_check o (begun m))
  of_expire_check w o is = grind (arith, of_period)

  pub of_expire : OfExpiries m E → E (expire (begun m))
  of_expire w = of_expire_check w m.check refl

  -- requests of layer management
  of_join_at : (tei : ℕ) → OfEvents (assigning tei) m E → (o : Option ℕ) → is_on tei m.places ≡ false → free_place m.places ≡ o → E (join_at tei o (begun m))
  of_join_at tei w o off at = grind arith

  off_checked : (e : Event) → OfEvents e m E → (tei : ℕ) (o : Option Check) → is_on tei m.places ≡ true → m.check ≡ o
      → E (leave tei ((cond (is_checked tei o) end_check nothing_happens) (send (IdentityRemove tei) (begun m))))
  off_checked e w tei None on is = w.leaves tei on (subst (λ o. is_checked tei o ≡ false) (sym is) refl)
  off_checked e w tei (Some own) on is =
      elim (own.tei == tei) as (λ b. own.tei == tei ≡ b → E (leave tei ((cond b end_check nothing_happens) (send (IdentityRemove tei) (begun m))))) [
        | true ↦ λ e. subst (λ n. E (leave n (end_check (send (IdentityRemove n) (begun m))))) (same_number own.tei tei e) (w.leaves_checked own is)
        | false ↦ λ e. w.leaves tei on (subst (λ o. is_checked tei o ≡ false) (sym is) e)
      ] refl

  of_down : (e : Event) → OfEvents e m E → (o : Option Check) → m.check ≡ o → E (end_if_any o (no_check_is_due (withdraw (begun m))))
  of_down e w None is = w.gives_up is
  of_down e w (Some own) is = w.gives_up_checked own is

  none_runs : (o : Option Check) → is_some o ≡ false → o ≡ None
  none_runs o e = grind arith

  -- what is said of each way holds of every event
  pub of_event : (e : Event) → OfEvents e m E → E (course e m)
  unfolding course refusal
  of_event (message octets) w = of_hear (w.messages octets refl) octets
  of_event expiry w = of_expire w.expiries
  of_event (assigning tei) w =
      unless (refusal (assigning tei) m) (step (assigning tei)) w.is_refused
      (λ ok. of_join_at tei w (free_place m.places) (not_refused (is_on tei m.places) TeiTaken (refusal_if (not (is_some (free_place m.places))) TableFull None) ok) refl)
  of_event (remove tei) w =
      unless (refusal (remove tei) m) (step (remove tei)) w.is_refused
      (λ ok. off_checked (remove tei) w tei m.check (not_not (is_on tei m.places) (not_refused (not (is_on tei m.places)) NoLink (refusal_if (no_room m.waiting) ControlFull None) ok)) refl)
  of_event (checking tei) w =
      unless (refusal (checking tei) m) (step (checking tei)) w.is_refused
      (λ ok.
      let others = refusal_if (is_some m.check) CheckRunning (refusal_if (no_room m.waiting) ControlFull None) in
      w.begins tei (not_not (is_on tei m.places) (not_refused (not (is_on tei m.places)) NoLink others ok))
      (none_runs m.check (not_refused (is_some m.check) CheckRunning (refusal_if (no_room m.waiting) ControlFull None) (refused_later (not (is_on tei m.places)) NoLink others ok))))
  of_event (disown tei) w = unless (refusal (disown tei) m) (step (disown tei)) w.is_refused (λ ok. w.disowns tei refl)
  of_event down w = of_down down w m.check refl
