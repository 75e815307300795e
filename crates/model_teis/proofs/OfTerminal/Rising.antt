-- By how many the messages that wait rise.
use Rattle.model_teis.proofs.OfTerminal.Vocabulary.{ℕ, ◌+◌, ◌≤◌, Bool, true, false, cond, count_by-le-length, max, List, [], ◌∷◌, ◌++◌, length, length-append, length-filter, length-set, filter, fold, position, Option, Some, None, subst, sym, arith, list_any, Terminal, Procedure, Message, IdentityCheckResponse, IdentityRequest, IdentityVerify, is_other, is_response, is_verified, is_verify}
use Rattle.model_teis.proofs.OfTerminal.Vocabulary.{is_request}
use Rattle.model_teis.proofs.OfTerminal.Vocabulary.{put_at, with_verify}
use Rattle.model_teis.proofs.OfTerminal.Walk.{OfEvents, of_event}
use Rattle.model_teis.specs.Steps.{◌then◌, nothing_happens}
use Rattle.model_teis.specs.terminal.Words.{Course, begun, end_procedure, end_verifying_of, is_answered, leave, respond, send_response}
use Rattle.model_teis.specs.terminal.Rows.{answer, answered, end_if_any, take_off, withdraw_all}
use Rattle.model_teis.specs.terminal.Events.{Event, message, expiry, ask, verify, assign, remove, down}
use Rattle.model_teis.specs.terminal.Laws.{FewMoreWait, more_most}

fewer : (keep : Message → Bool) (waiting : List Message) → length (filter keep waiting) ≤ length waiting
fewer keep waiting = omega (arith, length-filter keep waiting, count_by-le-length keep waiting)

-- Checks are answered: each lets one more wait at most.
ends : (tei : ℕ) (c : Course) → length (end_verifying_of tei c).now.waiting ≤ length c.now.waiting
ends tei c =
    elim (is_verified tei c.now.procedure) as (λ b. length ((cond b end_procedure nothing_happens) c).now.waiting ≤ length c.now.waiting) [
      | true ↦ omega (arith, fewer is_response c.now.waiting)
      | false ↦ omega arith
    ]

responds : (tei : ℕ) (c : Course) → length (respond tei c).now.waiting ≤ length c.now.waiting + 1
responds tei c =
    elim (is_answered tei c.now) as (λ b. length ((cond b nothing_happens (send_response tei)) c).now.waiting ≤ length c.now.waiting + 1) [
      | true ↦ omega arith
      | false ↦ omega (arith, length-append c.now.waiting (IdentityCheckResponse c.now.number tei ∷ []))
    ]

each : (teis : List ℕ) (c : Course) → length (fold answered c teis).now.waiting ≤ length c.now.waiting + length teis
each [] c = omega arith
each (tei ∷ teis) c = omega (arith, each teis (answer tei c), responds tei (end_verifying_of tei c), ends tei c)

-- a request takes the place of one that waits, and a verify that waits is enough
asked : (ri : ℕ) (waiting : List Message) (o : Option ℕ) → length (put_at (IdentityRequest ri) waiting o) ≤ length waiting + 1
asked ri waiting None = omega (arith, length-append waiting (IdentityRequest ri ∷ []))
asked ri waiting (Some place) = omega (arith, length-set waiting place (IdentityRequest ri))

verified : (tei : ℕ) (waiting : List Message) → length (with_verify tei waiting) ≤ length waiting + 1
verified tei waiting =
    elim (list_any is_verify waiting) as (λ b. length (cond b waiting (waiting ++ IdentityVerify tei ∷ [])) ≤ length waiting + 1) [
      | true ↦ omega arith
      | false ↦ omega (arith, length-append waiting (IdentityVerify tei ∷ []))
    ]

-- none more waits for a TEI that leaves, nor if the line is down
leaves : (m : Terminal) (tei : ℕ) → length (take_off tei (begun m)).now.waiting ≤ length m.waiting
leaves m tei =
    elim (is_verified tei m.procedure) as (λ b. length (leave tei ((cond b end_procedure nothing_happens) (begun m))).now.waiting ≤ length m.waiting) [
      | true ↦ omega (arith, fewer (is_other tei) (filter is_response m.waiting), fewer is_response m.waiting)
      | false ↦ omega (arith, fewer (is_other tei) m.waiting)
    ]

gives_up : (m : Terminal) (o : Option Procedure) → length ((end_if_any o then withdraw_all) (begun m)).now.waiting ≤ length m.waiting
gives_up m None = omega arith
gives_up m (Some procedure) = omega arith

one_at_least : (e : Event) (m : Terminal) → 1 ≤ more_most e m
one_at_least (message octets) m = omega arith
one_at_least expiry m = omega arith
one_at_least ask m = omega arith
one_at_least (verify tei) m = omega arith
one_at_least (assign tei) m = omega arith
one_at_least (remove tei) m = omega arith
one_at_least down m = omega arith

ways : (e : Event) (m : Terminal) → OfEvents e m (λ c. length c.now.waiting ≤ length m.waiting + more_most e m)
ways e m =
    let least = one_at_least e m in
    record {
      is_unserved = omega arith;
      is_idle = omega arith;
      asks = λ attempts may low high. omega (arith, least, asked m.number m.waiting (position is_request m.waiting));
      verifies = λ tei on may. omega (arith, least, verified tei m.waiting);
      verifies_again = λ tei made runs few. omega (arith, least, verified tei m.waiting);
      takes = λ octets ri tei attempts place is heard runs off low at. omega (arith, fewer is_response m.waiting);
      is_denied = omega arith;
      answers = λ octets teis is all short.
          let more : max 1 (length m.places) ≤ more_most e m = subst (λ x. max 1 (length m.places) ≤ more_most x m) (sym is) (omega arith) in
          omega (arith, each teis (begun m), short, more);
      is_removed = λ tei. omega (arith, leaves m tei);
      is_told = omega arith;
      gives_up_asking = omega (arith, fewer is_response m.waiting);
      joins = λ tei place is off at. omega arith;
      leaves = λ tei. omega (arith, leaves m tei);
      is_down = omega (arith, gives_up m m.procedure);
    }

pub few_more_wait : FewMoreWait
few_more_wait e m = of_event e m (λ c. length c.now.waiting ≤ length m.waiting + more_most e m) (ways e m)
