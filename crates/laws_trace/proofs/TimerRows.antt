-- What is known of a link, and when its timers are started anew: each row of the tables, except for offers.
use Rattle.laws_trace.proofs.Vocabulary.{arith, ◌≡◌, ℕ, ◌≤◌, ◌+◌, Bool, true, false, List, Option, Some, None, refl, sym, subst, nat_lt, length, Information, ReceiveReady, ReceiveNotReady, Reject, Sabme, ErrorCode, State, TeiAssigned, AwaitingEstablishment, AwaitingRelease, Established, TimerRecovery, Terms, LinkTimer, Link, Control, T200, T203, Step, begun, frame_in, malformed_in}
use Rattle.laws_trace.proofs.Vocabulary.{is_final}
use Rattle.lapd_frame.specs.declared.controls.Control.TheVariants.{Dm, Ui}
use Rattle.lapd_frame.specs.declared.notes.ErrorCode.TheVariants as code
use Rattle.model_link.specs.MultipleFrame.{failed, long_unit_in_7_8}
use Rattle.model_link.specs.Steps.{by_bit}
use Rattle.model_link.specs.TeiAssigned.{establish_in_4}
use Rattle.model_link.specs.Words.{deliver_unit, error, leave_unserved, malformed as malformed_below, read_as, unexpected, unit_data}
use Rattle.laws_trace.proofs.TimersWatched.{Known, nothing_yet}
use Rattle.laws_trace.proofs.TimerActs.{Timing, timing, Acts, itself, either-bit, acknowledged, acknowledges, begins, informed, informs, recovers, sabme-acts, starts, supervises, with_busy, both, by-number, answers, by-bit, whichever}
use Rattle.laws_trace.proofs.TimerClaims.{IsKnown, Good}
use Rattle.laws_trace.proofs.TimerClaims as claims

abbrev pub in_state : State → Link → Link
in_state here l = record l { state = here }

-- What is not served in states 4, 5 and 6, or is an error by annex B
unserved-acts : (t : Terms) (e : ErrorCode) → Acts (malformed_below t e) itself
unserved-acts t e = grind (arith, timing, error)

-- UI in these states, and an I-frame
unit-acts : (t : Terms) (octets : List ℕ) → Acts (unit_data t (malformed_below t code.O) octets) itself
unit-acts t octets = either-bit (nat_lt t.n201 (length octets)) (malformed_below t code.O) (deliver_unit t octets) itself (unserved-acts t code.O) (record { acts = λ c. refl })

unexpected-acts : (t : Terms) (octets : List ℕ) → Acts (unexpected t octets) itself
unexpected-acts t octets = either-bit (nat_lt t.n201 (length octets)) (malformed_below t code.O) leave_unserved itself (unserved-acts t code.O) (record { acts = λ c. refl })

module _ (t : Terms) (k : Known) (ran : LinkTimer → Bool) (l : Link) where
  -- What holds of a link in each state.
  abbrev pub Facts : State → Type 0
  Facts TeiAssigned = (timer : LinkTimer) → ran timer ≡ false
  Facts AwaitingEstablishment = (ran T203 ≡ false) × (k ≡ nothing_yet) × (l.peer_busy ≡ false)
  Facts AwaitingRelease = ran T203 ≡ false
  Facts Established = IsKnown k l.a l.s l.peer_busy × (l.a ≤ l.s) × (l.s ≤ l.a + 127) × (ran T203 ≡ true → (l.s ≡ l.a) × (l.peer_busy ≡ false))
  Facts TimerRecovery = (ran T203 ≡ false) × IsKnown k l.a l.s l.peer_busy

  abbrev at : State → Timing
  at state = timing (begun (in_state state l))

  abbrev Row : State → Step → Option Control → Type 0
  Row here f o = Good k ran (at here) (timing (f (begun (in_state here l)))) o

  moved : (here : State) (o : Option Control) (f : Step) (F : Timing → Timing) → Acts f F → Good k ran (at here) (F (at here)) o → Row here f o
  moved here o f F h good = subst (λ y. Good k ran (at here) y o) (sym (h.acts (begun (in_state here l)))) good

  -- By annex B the other side asks for an establishment.
  asked-4 : ((timer : LinkTimer) → ran timer ≡ false) → Row TeiAssigned (read_as t leave_unserved (establish_in_4 t)) (Some (Dm false))
  asked-4 none = grind (arith, Good, timing, begun, claims.same-4)

  -- State 4.
  in-4 : ((timer : LinkTimer) → ran timer ≡ false) → (b : Bool) (octets : List ℕ) (control : Control) → Row TeiAssigned (frame_in TeiAssigned t b octets control) (Some control)
  in-4 none b octets control = grind (arith, claims.sabme-4, claims.same-4, moved, itself, unit-acts, unexpected-acts, asked-4)

  -- State 5.
  in-5 : Facts AwaitingEstablishment → (b : Bool) (octets : List ℕ) (control : Control)
      → Row AwaitingEstablishment (frame_in AwaitingEstablishment t b octets control) (Some control)
  in-5 facts b octets control = grind (arith, moved, begins, claims.agreed-5, claims.carried-5, claims.ended, itself, unit-acts, unexpected-acts)

  -- State 6.
  same-6 : ran T203 ≡ false → (o : Option Control) → Good k ran (at AwaitingRelease) (at AwaitingRelease) o
  same-6 only o = claims.same-6 k ran l.a l.s l.peer_busy l.running only o

  -- UI in states 7 and 8
  unit-row : (here : State) (p : Bool) (octets : List ℕ) → Row here (deliver_unit t octets) (Some (Ui p)) → Row here leave_unserved (Some (Ui p)) → Row here (failed t code.O) (Some (Ui p))
      → Row here (unit_data t (long_unit_in_7_8 t) octets) (Some (Ui p))
  unit-row here p octets told unserved fails = grind (arith, nat_lt, Good, timing, by_bit, failed, begun)

  -- State 7.
  module _ (facts : Facts Established) where
    still-7 : (p : Bool) → Good k ran (at Established) (at Established) (Some (Ui p))
    still-7 p = grind (arith, claims.same-7)

    in-7 : (b : Bool) (octets : List ℕ) (control : Control) → Row Established (frame_in Established t b octets control) (Some control)
    in-7 b octets (Information ns nr p) =
        moved Established (Some (Information ns nr p)) (frame_in Established t b octets (Information ns nr p)) (informs (nat_lt t.n201 (length octets)) nr informed)
        (grind (arith, by-bit, both, whichever, answers, either-bit, by-number))
        (claims.informed-7 k ran l.a l.s l.peer_busy l.running facts.1 facts.2 facts.0 facts.3 (nat_lt t.n201 (length octets)) ns nr p)
    in-7 b octets (ReceiveReady nr p) =
        moved Established (Some (ReceiveReady nr p)) (frame_in Established t b octets (ReceiveReady nr p)) (supervises false nr acknowledged)
        (grind (arith, both, answers, by-number)) (claims.ready-7 k ran l.a l.s l.peer_busy l.running facts.1 facts.2 facts.0 facts.3 nr p)
    in-7 b octets (ReceiveNotReady nr p) =
        moved Established (Some (ReceiveNotReady nr p)) (frame_in Established t b octets (ReceiveNotReady nr p))
        (supervises true nr (λ n x. starts T200 (acknowledges n x))) (grind (arith, both, answers, by-number))
        (claims.not-ready-7 k ran l.a l.s l.peer_busy l.running facts.1 facts.2 facts.0 facts.3 nr p)
    in-7 b octets (Reject nr p) =
        moved Established (Some (Reject nr p)) (frame_in Established t b octets (Reject nr p)) (supervises false nr (λ n x. record (starts T203 x) { a = n; s = n }))
        (grind (arith, both, answers, by-number)) (claims.reject-7 k ran l.a l.s l.peer_busy l.running facts.1 facts.2 facts.0 facts.3 nr p)
    in-7 b octets (Sabme p) =
        moved Established (Some (Sabme p)) (frame_in Established t b octets (Sabme p)) (λ x. with_busy false (begins x)) (sabme-acts t p)
        (claims.sabme-7 k ran l.a l.s l.peer_busy l.running facts.1 facts.2 facts.0 facts.3 p)
    in-7 b octets (Ui p) =
        unit-row Established p octets (moved Established (Some (Ui p)) (deliver_unit t octets) itself (record { acts = λ c. refl }) (still-7 p))
        (moved Established (Some (Ui p)) leave_unserved itself (record { acts = λ c. refl }) (still-7 p)) (grind (arith, claims.failed-7))
    in-7 b octets other = grind (arith, moved, itself, either-bit, claims.same-7, claims.ended, claims.failed-7)

  -- State 8.
  module _ (facts : Facts TimerRecovery) where
    still-8 : (p : Bool) → Good k ran (at TimerRecovery) (at TimerRecovery) (Some (Ui p))
    still-8 p = grind (arith, claims.same-8)

    in-8 : (b : Bool) (octets : List ℕ) (control : Control) → Row TimerRecovery (frame_in TimerRecovery t b octets control) (Some control)
    in-8 b octets (Information ns nr p) =
        moved TimerRecovery (Some (Information ns nr p)) (frame_in TimerRecovery t b octets (Information ns nr p))
        (informs (nat_lt t.n201 (length octets)) nr acknowledges) (grind (arith, by-bit, both, whichever, answers, either-bit, by-number))
        (claims.informed-8 k ran l.a l.s l.peer_busy l.running facts.0 facts.1 (nat_lt t.n201 (length octets)) ns nr p)
    in-8 b octets (ReceiveReady nr p) =
        let final = is_final b p in
        moved TimerRecovery (Some (ReceiveReady nr p)) (frame_in TimerRecovery t b octets (ReceiveReady nr p)) (supervises false nr (recovers T203 final))
        (grind (arith, both, answers, by-number))
        (claims.supervised-8 k ran l.a l.s l.peer_busy l.running facts.0 facts.1 false T203 (Some (ReceiveReady nr p)) nr refl refl final)
    in-8 b octets (ReceiveNotReady nr p) =
        let final = is_final b p in
        moved TimerRecovery (Some (ReceiveNotReady nr p)) (frame_in TimerRecovery t b octets (ReceiveNotReady nr p)) (supervises true nr (recovers T200 final))
        (grind (arith, both, answers, by-number))
        (claims.supervised-8 k ran l.a l.s l.peer_busy l.running facts.0 facts.1 true T200 (Some (ReceiveNotReady nr p)) nr refl refl final)
    in-8 b octets (Reject nr p) =
        let final = is_final b p in
        moved TimerRecovery (Some (Reject nr p)) (frame_in TimerRecovery t b octets (Reject nr p)) (supervises false nr (recovers T203 final))
        (grind (arith, both, answers, by-number))
        (claims.supervised-8 k ran l.a l.s l.peer_busy l.running facts.0 facts.1 false T203 (Some (Reject nr p)) nr refl refl final)
    in-8 b octets (Sabme p) =
        moved TimerRecovery (Some (Sabme p)) (frame_in TimerRecovery t b octets (Sabme p)) (λ x. with_busy false (begins x)) (sabme-acts t p)
        (claims.sabme-8 k ran l.a l.s l.peer_busy l.running facts.0 facts.1 p)
    in-8 b octets (Ui p) =
        unit-row TimerRecovery p octets (moved TimerRecovery (Some (Ui p)) (deliver_unit t octets) itself (record { acts = λ c. refl }) (still-8 p))
        (moved TimerRecovery (Some (Ui p)) leave_unserved itself (record { acts = λ c. refl }) (still-8 p)) (grind (arith, claims.failed-8))
    in-8 b octets other = grind (arith, moved, itself, either-bit, claims.same-8, claims.ended, claims.failed-8)

  -- Any frame, and what the grammar does not have.
  pub by-frame : (here : State) → Facts here → (b : Bool) (octets : List ℕ) (control : Control) → Row here (frame_in here t b octets control) (Some control)
  by-frame Established facts b octets control = in-7 facts b octets control
  by-frame TimerRecovery facts b octets control = in-8 facts b octets control
  by-frame other facts b octets control = grind (arith, claims.stopped, moved, itself, unit-acts, unexpected-acts, same-6, in-4, in-5)

  pub malformed : (here : State) → Facts here → (e : ErrorCode) → Row here (malformed_in here t e) None
  malformed here facts e = grind (arith, claims.same-4, claims.same-5, same-6, claims.failed-7, claims.failed-8)

  -- Nothing of it changes.
  pub unchanged : (here : State) → Facts here → (f : Step) → Acts f itself → Row here f None
  unchanged here facts f h = grind (arith, moved, itself, claims.same-4, claims.same-5, same-6, claims.same-7, claims.same-8)
