-- Every event ends in one of a few ways: the rows of the table are walked once, for any claim.
use Rattle.model_teis.proofs.OfTerminal.Vocabulary.{◌≡◌, ℕ, ◌+◌, ◌≤◌, ◌==◌, ◌&&◌, max, nat_le, nat_lt, Bool, true, false, not, cond, is_some, List, [], ◌∷◌, length, All, Option, Some, None, refl, sym, subst, ap, arith, nat_tests, none-some, false≢true, same_number, fold, is_on, free_place, Terminal, Procedure, Asking, Verifying, may_ask, may_verify, named}
use Rattle.model_teis.proofs.OfTerminal.SoundWords.{named_on, named_few}
use Rattle.lapd_frame.specs.declared.refusals.Refusal.{Refusal}
use Rattle.lapd_frame.specs.declared.refusals.Refusal.TheVariants.{NoLink, TeiTaken, TableFull, CheckRunning}
use Rattle.model_teis.specs.Refused.{refusal_if}
use Rattle.lapd_frame.specs.declared.notes.Note.TheVariants.{Assigned, Denied, RemoveAll}
use Rattle.model_teis.specs.terminal.Messages.{Heard, IdentityAssigned, IdentityDenied, IdentityCheckRequest, IdentityRemove, heard_in}
use Rattle.model_teis.specs.Steps.{◌then◌}
use Rattle.model_teis.specs.terminal.Words.{Course, Step, begun, note, unserved, ask, verify, end_procedure, join}
use Rattle.model_teis.specs.terminal.Rows.{is_assignable, lowest_taken, take_at, take_tei, assigned, denied, answered, checked, removed, removed_each, serve, give_up_asking, expire_procedure, join_at, take_off, end_if_any, withdraw_all}
use Rattle.model_teis.specs.terminal.Events.{Event, message, expiry, assign, remove, down, refusal, unless_refused, ask as asking, verify as verifying}
unfoldable use Rattle.model_teis.specs.terminal.Events.{course}

-- What a claim has to say of each way in which an event ends.
pub record OfEvents (e : Event) (m : Terminal) (E : Course → Type 0) : Type 0 where
  pub is_unserved : E (unserved (begun m))
  pub is_idle : E (begun m)
  pub asks : (attempts : ℕ) → may_ask m.procedure ≡ true → 1 ≤ attempts → attempts ≤ 3 → E (ask attempts (begun m))
  pub verifies : (tei : ℕ) → is_on tei m.places ≡ true → may_verify tei m.procedure ≡ true → E (verify tei 1 (begun m))
  pub verifies_again : (tei made : ℕ) → m.procedure ≡ Some (Verifying tei made) → made + 1 ≤ 2 → E (verify tei (made + 1) (begun m))
  pub takes : (octets : List ℕ) (ri tei attempts place : ℕ) → e ≡ message octets → heard_in m.reading octets ≡ Some (IdentityAssigned ri tei) → m.procedure ≡ Some (Asking ri attempts)
      → is_on tei m.places ≡ false → tei ≤ 126 → free_place m.places ≡ Some place → E (note (Assigned tei) (end_procedure (join tei place (begun m))))
  pub is_denied : E (note Denied (begun m))
  pub answers : (octets teis : List ℕ) → e ≡ message octets → All (λ tei. is_on tei m.places ≡ true) teis → length teis ≤ max 1 (length m.places) → E (fold answered (begun m) teis)
  pub is_removed : (tei : ℕ) → E (removed tei (begun m))
  pub is_told : E (note RemoveAll (begun m))
  pub gives_up_asking : E (give_up_asking (begun m))
  pub joins : (tei place : ℕ) → e ≡ assign tei → is_on tei m.places ≡ false → free_place m.places ≡ Some place → E (join tei place (begun m))
  pub leaves : (tei : ℕ) → E (take_off tei (begun m))
  pub is_down : E ((end_if_any m.procedure then withdraw_all) (begun m))

-- tests that hold, and requests that are not refused
three : (a b c : Bool) → (a && b && c) ≡ true → (a ≡ true) × (b ≡ true) × (c ≡ true)
three true true true e = (refl, refl, refl)
three true true false e = absurd (false≢true e)
three true false c e = absurd (false≢true e)
three false b c e = absurd (false≢true e)

is_not : (b : Bool) → not b ≡ true → b ≡ false
is_not true e = absurd (false≢true e)
is_not false e = refl

is_so : (b : Bool) → not b ≡ false → b ≡ true
is_so true e = refl
is_so false e = absurd (false≢true (sym e))

not_refused : (b : Bool) (why : Refusal) (others : Option Refusal) → refusal_if b why others ≡ None → (b ≡ false) × (others ≡ None)
not_refused true why others e = absurd (none-some why (sym e))
not_refused false why others e = (refl, e)

may_begin : (o : Option Procedure) → is_some o ≡ false → may_ask o ≡ true
may_begin None e = refl
may_begin (Some procedure) e = absurd (false≢true (sym e))

may_begin_verifying : (tei : ℕ) (o : Option Procedure) → is_some o ≡ false → may_verify tei o ≡ true
may_begin_verifying tei None e = refl
may_begin_verifying tei (Some procedure) e = absurd (false≢true (sym e))

one_of : (b : Bool) (E : Course → Type 0) (f g : Step) (c : Course) → (b ≡ true → E (f c)) → (b ≡ false → E (g c)) → E ((cond b f g) c)
one_of true E f g c holds fails = holds refl
one_of false E f g c holds fails = fails refl

unless : (o : Option Refusal) (m : Terminal) (E : Course → Type 0) (does : Step) → E (begun m) → (o ≡ None → E (does (begun m))) → E (unless_refused o does m)
unless None m E does refused granted = granted refl
unless (Some why) m E does refused granted = refused

idle_if_granted : (m : Terminal) → refusal asking m ≡ None → is_some m.procedure ≡ false
idle_if_granted m granted =
    let first = not_refused (not (is_some (free_place m.places))) TableFull (refusal_if (is_some m.procedure) CheckRunning None) granted in
    (not_refused (is_some m.procedure) CheckRunning None first.1).0

module _ (e : Event) (m : Terminal) (E : Course → Type 0) (w : OfEvents e m E) where
  -- an assignment
  of_take_at : (octets : List ℕ) (ri tei attempts : ℕ) (o : Option ℕ) → e ≡ message octets → heard_in m.reading octets ≡ Some (IdentityAssigned ri tei) → m.procedure ≡ Some (Asking ri attempts)
      → is_assignable m.reading tei m.places ≡ true → free_place m.places ≡ o → E (take_at tei o (begun m))
  of_take_at octets ri tei attempts None is heard runs may at = w.is_unserved
  of_take_at octets ri tei attempts (Some place) is heard runs may at =
      let parts = three (nat_le (lowest_taken m.reading) tei) (nat_le tei 126) (not (is_on tei m.places)) may in
      let low : tei ≤ 126 = grind (arith, nat_tests) in
      w.takes octets ri tei attempts place is heard runs (is_not (is_on tei m.places) parts.2) low at

  of_own : (octets : List ℕ) (ri tei own attempts : ℕ) → e ≡ message octets → heard_in m.reading octets ≡ Some (IdentityAssigned ri tei) → m.procedure ≡ Some (Asking own attempts) → (own == ri) ≡ true → E (take_tei tei (begun m))
  of_own octets ri tei own attempts is heard runs same =
      let runs_for : m.procedure ≡ Some (Asking ri attempts) = subst (λ n. m.procedure ≡ Some (Asking n attempts)) (same_number own ri same) runs in
      one_of (is_assignable m.reading tei m.places) E (take_at tei (free_place m.places)) unserved (begun m)
      (λ may. of_take_at octets ri tei attempts (free_place m.places) is heard runs_for may refl) (λ not. w.is_unserved)

  of_assigned : (octets : List ℕ) (ri tei : ℕ) (o : Option Procedure) → e ≡ message octets → heard_in m.reading octets ≡ Some (IdentityAssigned ri tei) → m.procedure ≡ o → E (assigned ri tei o (begun m))
  of_assigned octets ri tei None is heard runs =
      one_of (is_on tei m.places) E (verify tei 1) unserved (begun m) (λ on. w.verifies tei on (ap (may_verify tei) runs)) (λ off. w.is_unserved)
  of_assigned octets ri tei (Some (Asking own attempts)) is heard runs =
      one_of (own == ri) E (take_tei tei) unserved (begun m) (λ same. of_own octets ri tei own attempts is heard runs same) (λ other. w.is_unserved)
  of_assigned octets ri tei (Some (Verifying own attempts)) is heard runs = w.is_unserved

  of_denied : (ri : ℕ) (o : Option Procedure) → E (denied ri o (begun m))
  of_denied ri None = w.is_unserved
  of_denied ri (Some (Asking own attempts)) = one_of (own == ri) E (note Denied) unserved (begun m) (λ same. w.is_denied) (λ other. w.is_unserved)
  of_denied ri (Some (Verifying own attempts)) = w.is_unserved

  -- checks and removals
  of_checked : (octets teis : List ℕ) → e ≡ message octets → All (λ tei. is_on tei m.places ≡ true) teis → length teis ≤ max 1 (length m.places) → E (checked teis (begun m))
  of_checked octets [] is all short = w.is_unserved
  of_checked octets (tei ∷ teis) is all short = w.answers octets (tei ∷ teis) is all short

  of_removed : (teis : List ℕ) → E (removed_each teis (begun m))
  of_removed [] = w.is_unserved
  of_removed (tei ∷ []) = w.is_removed tei
  of_removed (tei ∷ other ∷ teis) = w.is_told

  of_serve : (octets : List ℕ) (o : Option Heard) → e ≡ message octets → heard_in m.reading octets ≡ o → E (serve o (begun m))
  of_serve octets None is heard = w.is_unserved
  of_serve octets (Some (IdentityAssigned ri tei)) is heard = of_assigned octets ri tei m.procedure is heard refl
  of_serve octets (Some (IdentityDenied ri)) is heard = of_denied ri m.procedure
  of_serve octets (Some (IdentityCheckRequest tei)) is heard = of_checked octets (named tei m.places) is (named_on tei m.places) (named_few tei m.places)
  of_serve octets (Some (IdentityRemove tei)) is heard = of_removed (named tei m.places)

  -- an expiry of T202
  of_expire : (o : Option Procedure) → m.procedure ≡ o → E (expire_procedure o (begun m))
  of_expire None runs = w.is_idle
  of_expire (Some (Asking ri attempts)) runs =
      one_of (nat_lt attempts 3) E (ask (attempts + 1)) give_up_asking (begun m)
      (λ less.
      let few : attempts + 1 ≤ 3 = grind (arith, nat_tests) in
      w.asks (attempts + 1) (ap may_ask runs) (omega arith) few) (λ none. w.gives_up_asking)
  of_expire (Some (Verifying tei attempts)) runs =
      one_of (nat_lt attempts 2) E (verify tei (attempts + 1)) (removed tei) (begun m)
      (λ less.
      let few : attempts + 1 ≤ 2 = grind (arith, nat_tests) in
      w.verifies_again tei attempts runs few) (λ none. w.is_removed tei)

  of_join : (tei : ℕ) (o : Option ℕ) → e ≡ assign tei → is_on tei m.places ≡ false → free_place m.places ≡ o → E (join_at tei o (begun m))
  of_join tei None is off at = w.is_idle
  of_join tei (Some place) is off at = w.joins tei place is off at

-- What is said of each way holds of every event.
pub of_event : (e : Event) (m : Terminal) (E : Course → Type 0) → OfEvents e m E → E (course e m)
unfolding course
of_event (message octets) m E w = of_serve (message octets) m E w octets (heard_in m.reading octets) refl refl
of_event expiry m E w = of_expire expiry m E w m.procedure refl
of_event asking m E w =
    unless (refusal asking m) m E (ask 1) w.is_idle (λ granted.
    w.asks 1 (may_begin m.procedure (idle_if_granted m granted)) (omega arith) (omega arith))
of_event (verifying tei) m E w =
    unless (refusal (verifying tei) m) m E (verify tei 1) w.is_idle (λ granted.
    let first = not_refused (not (is_on tei m.places)) NoLink (refusal_if (is_some m.procedure) CheckRunning None) granted in
    let second = not_refused (is_some m.procedure) CheckRunning None first.1 in
    w.verifies tei (is_so (is_on tei m.places) first.0) (may_begin_verifying tei m.procedure second.0))
of_event (assign tei) m E w =
    unless (refusal (assign tei) m) m E (λ c. join_at tei (free_place c.now.places) c) w.is_idle (λ granted.
    let first = not_refused (is_on tei m.places) TeiTaken (refusal_if (not (is_some (free_place m.places))) TableFull None) granted in
    of_join (assign tei) m E w tei (free_place m.places) refl first.0 refl)
of_event (remove tei) m E w = unless (refusal (remove tei) m) m E (take_off tei) w.is_idle (λ granted. w.leaves tei)
of_event down m E w = w.is_down
