-- What the row of a frame does, said once: a claim that every word of the tables leads on is led on by every row.
use Rattle.model_link.proofs.Vocabulary.{◌≡◌, ℕ, ◌<◌, ◌≤◌, Bool, true, false, IsTrue, List, Option, Some, None, inr, refl, sym, subst, ltb-true, true≢false, length-take, arith, Seq, seq, named, leb-true, Control, Information, ReceiveReady, ReceiveNotReady, Reject, Sabme, Disc, Ui, Ua, Dm, Frmr, Xid, ErrorCode, State, TeiAssigned, AwaitingEstablishment, AwaitingRelease, Established, TimerRecovery}
use Rattle.model_link.proofs.Vocabulary.{LinkCounts, LinkTimer}
use Rattle.model_link.proofs.Vocabulary.{T200, T203}
use Rattle.model_link.proofs.Vocabulary.{ControlFrame, Terms, has_outstanding, is_asked, is_owed, is_peer_busy, is_own_busy, is_multiple_frame, Course, Step, ◌then◌, nothing, depending_on, establish_in_4, frame_in_4, frame_in_5, frame_in_6, acknowledged_in_8, particulars_in_8, frame_in, command, response}
use Rattle.std.specs.Prelude.{◌&&◌}
use Rattle.model_link.specs.Link.{Link, state_number, may_repeat, most_repeats, most_rc}
use Rattle.model_link.specs.Words
use Rattle.model_link.specs.AwaitingEstablishment as awaiting
use Rattle.model_link.specs.MultipleFrame
use Rattle.model_link.specs.Established
use Rattle.model_link.proofs.Leads.{Leads, then_leads, depending_leads, bit_leads, tested_leads, read_leads, Passed, from_more, to_less}
use Rattle.model_link.proofs.Waits.{Waits, ua_waits, sabme_waits, ready_waits, may_wait}
use Rattle.model_link.proofs.Kept.{Purse, no_more, another, two, Fits}
use Rattle.model_link.proofs.Careful.{Claim, At, anything, idle, Names, names, paid, starts, Careful}

-- one step after the other
infixr 10 ◌▹◌
pub ◌▹◌ : {P Q R : Course → Type 0} {f g : Step} → Leads P f Q → Leads Q g R → Leads P (f then g) R
x ▹ y = then_leads x y

abbrev pub one : Purse
one = another no_more

-- no state repeats more often than RC counts
pub repeats-low : (t : Terms) (state : ℕ) → most_repeats t state ≤ most_rc t
repeats-low t state = omega arith

counted-on : (t : Terms) (l : Link) → may_repeat t l ≡ true → l.repeats < most_rc t
counted-on t l told = omega (arith, ltb-true l.repeats (most_repeats t (state_number l.state)) told, repeats-low t (state_number l.state))

-- what `named` finds lies between V(A) and V(S)
pub named-within : (a s m : ℕ) (nr : Seq) → named a s nr ≡ Some m → (a ≤ m) × (m ≤ s)
unfolding named
named-within a s m nr e = grind (arith, leb-true)

module _ {t : Terms} {Units Anew Taken Window Queued Offered : Type 0} {In : State → State → Type 0} {S : Course → Type 0} {P : Purse → Purse → Course → Type 0} {E : Course → Type 0} (k : Careful t Units Anew Taken Window Queued Offered In S P E) where
  -- an N(R) names a number
  names-in : (here : State) (control : Control) (nr : Seq) (a s n i : ℕ) (state : State) → starts In Window here control a s n state
      → named a s nr ≡ Some i → Names In i here a s state
  names-in here control nr a s n i state x e = grind (arith, named-within)

  -- the words
  pub error : {X : Claim} {p q : Purse} (e : ErrorCode) → Leads (At X (P p (another q))) (Words.error t e) (At X (P p q))
  error {p = p} {q = q} e = record { leads = λ c h. record { known = h.known; holds = k.error p q e c h.holds } }

  establish_indication : {X : Claim} {p q : Purse} → Leads (At X (P p (another q))) (Words.establish_indication t) (At X (P p q))
  establish_indication {p = p} {q = q} = record { leads = λ c h. record { known = h.known; holds = k.establish_indication p q c h.holds } }

  establish_confirm : {X : Claim} {p q : Purse} → Leads (At X (P p (another q))) (Words.establish_confirm t) (At X (P p q))
  establish_confirm {p = p} {q = q} = record { leads = λ c h. record { known = h.known; holds = k.establish_confirm p q c h.holds } }

  pub release_indication : {X : Claim} {p q : Purse} → Leads (At X (P p (another q))) (Words.release_indication t) (At X (P p q))
  release_indication {p = p} {q = q} = record { leads = λ c h. record { known = h.known; holds = k.release_indication p q c h.holds } }

  pub release_confirm : {X : Claim} {p q : Purse} → Leads (At X (P p (another q))) (Words.release_confirm t) (At X (P p q))
  release_confirm {p = p} {q = q} = record { leads = λ c h. record { known = h.known; holds = k.release_confirm p q c h.holds } }

  xid : {X : Claim} {p q : Purse} → Leads (At X (P p (another q))) (Words.xid t) (At X (P p q))
  xid {p = p} {q = q} = record { leads = λ c h. record { known = h.known; holds = k.xid p q c h.holds } }

  pub send : {X : Claim} {p q : Purse} {f : ControlFrame} → Waits t f → Leads (At X (P (another p) q)) (Words.send t f) (At X (P p q))
  send {p = p} {q = q} {f = f} w = record { leads = λ c h. record { known = h.known; holds = k.send p q f c w h.holds } }

  peer_busy : {X : Claim} {p q : Purse} (b : Bool) → Leads (At X (P p q)) (Words.peer_busy_is b) (At X (P p q))
  peer_busy {p = p} {q = q} b = record { leads = λ c h. record { known = h.known; holds = k.peer_busy p q b c h.holds } }

  pub settled : {X : Claim} {p q : Purse} → Leads (At X (P p q)) (Words.pending_is false) (At X (P p q))
  settled {p = p} {q = q} = record { leads = λ c h. record { known = h.known; holds = k.settled p q c h.holds } }

  pub flags : {X : Claim} {p q : Purse} → Leads (At X (P p q)) Words.clear_flags (At X (P p q))
  flags {p = p} {q = q} = record { leads = λ c h. record { known = h.known; holds = k.flags p q c h.holds } }

  pub repeats : {X : Claim} {p q : Purse} (n : ℕ) → n ≤ most_rc t → Leads (At X (P p q)) (Words.repeats_are n) (At X (P p q))
  repeats {p = p} {q = q} n few = record { leads = λ c h. record { known = h.known; holds = k.repeats p q n c few h.holds } }

  -- one repeat more, after what leaves RC, if there may be one
  pub repeated : {X : Claim} {p q p' q' : Purse} {f : Step} → ((c : Course) → (f c).link.repeats ≡ c.link.repeats) → Leads (At X (P p' q')) f (At X (P p q))
      → Leads (Passed (At X (P p' q')) (may_repeat t) true) (f then Words.repeated) (At X (P p q))
  repeated {p = p} {q = q} {f = f} same x = record {
    leads = λ c h.
        let after = x.leads c h.holds in
        record { known = after.known; holds = k.repeated p q (f c) (subst (λ n. n < most_rc t) (sym (same c)) (counted-on t c.link h.told)) after.holds };
  }

  pub start : {X : Claim} {p q : Purse} (timer : LinkTimer) → Leads (At X (P p q)) (Words.start timer) (At X (P p q))
  start {p = p} {q = q} timer = record { leads = λ c h. record { known = h.known; holds = k.start p q timer c h.holds } }

  pub no_timer : {X : Claim} {p q : Purse} → Leads (At X (P p q)) Words.no_timer (At X (P p q))
  no_timer {p = p} {q = q} = record { leads = λ c h. record { known = h.known; holds = k.no_timer p q c h.holds } }

  pub count : {X : Claim} {p q : Purse} (change : LinkCounts → LinkCounts) → Leads (At X (P p q)) (Words.count change) (At X (P p q))
  count {p = p} {q = q} change = record { leads = λ c h. record { known = h.known; holds = k.count p q change c h.holds } }

  pub discard : {X : Claim} {p q : Purse} → Leads (At X (P p q)) Words.discard (At (idle In) (P p q))
  discard {p = p} {q = q} = grind (arith, length-take)

  owed_off : {X : Claim} {p q : Purse} → Leads (At X (P p q)) (Words.owed_is false) (At X (P p q))
  owed_off {p = p} {q = q} = record { leads = λ c h. record { known = h.known; holds = k.owed_off p q c h.holds } }

  reset : {X : Claim} {p q : Purse} → Anew → Leads (At X (P p q)) Words.reset_numbers (At anything (P p q))
  reset {p = p} {q = q} may = record { leads = λ c h. record { known = tt; holds = k.reset may p q c h.holds } }

  zero : {X : Claim} {p q : Purse} → Anew → Leads (At X (P p q)) Words.zero_numbers (At anything (P p q))
  zero {p = p} {q = q} may = record { leads = λ c h. record { known = tt; holds = k.zero may p q c h.holds } }

  acknowledge : {p q : Purse} {here : State} (i : ℕ) → IsTrue (is_multiple_frame here)
      → Leads (At (names In i here) (P p q)) (Words.acknowledge i) (At (names In i here) (P p q))
  acknowledge {p} {q} {here} i up = grind arith

  pub ready : {X : Claim} {p q : Purse} (b : Bool)
      → Leads (At X (P (another p) q)) (λ c. (Words.send t (record { command = b; control = Words.rr_or_rnr true c.link }) then Words.pending_is false) c) (At X (P p q))
  ready b = record { leads = λ c h. (send (ready_waits t b true c.link) ▹ settled).leads c h }

  reject : {X : Claim} {p q : Purse} (f : Bool) → Leads (At X (P (another p) q)) (Words.reject t f) (At X (P p q))
  reject f = record { leads = λ c h. (send (may_wait t (response (Reject (seq c.link.r) f)) refl refl (omega arith) refl) ▹ settled).leads c h }

  silent : {X : Claim} {p q : Purse} → Leads (At X (P (another p) q)) nothing (At X (P p q))
  silent {p = p} {q = q} = record { leads = λ c h. record { known = h.known; holds = k.unsent p q c h.holds } }

  pub untold : {X : Claim} {p q : Purse} → Leads (At X (P p (another q))) nothing (At X (P p q))
  untold {p = p} {q = q} = record { leads = λ c h. record { known = h.known; holds = k.untold p q c h.holds } }

  -- the last word
  pub ends : {R : Course → Type 0} {X : Claim} {p q : Purse} {f : Step} → Leads R f (At X (P p q)) → Leads R f E
  ends {p = p} {q = q} {f = f} x = record { leads = λ c h. k.ends p q (f c) (x.leads c h).holds }

  pub stays : {X : Claim} {p q : Purse} → Leads (At X (P p q)) nothing E
  stays {p = p} {q = q} = record { leads = λ c h. k.ends p q c h.holds }

  pub enter_4 : {p q : Purse} → Leads (At (idle In) (P p q)) (Words.enter TeiAssigned) E
  enter_4 {p} {q} = record { leads = λ c h. k.enter_4 p q c h.known h.holds }

  pub enter_5 : {X : Claim} {p q : Purse} (b : Bool) → ((a s n : ℕ) (state : State) → X a s n state → IsTrue b → idle In a s n state)
      → Leads (At X (P p q)) (Words.asked_is b then Words.enter AwaitingEstablishment) E
  enter_5 {p = p} {q = q} b x = record { leads = λ c h. k.enter_5 p q b c (x _ _ _ _ h.known) h.holds }

  pub enter_6 : {p q : Purse} → Leads (At (idle In) (P p q)) (Words.enter AwaitingRelease) E
  enter_6 {p} {q} = record { leads = λ c h. k.enter_6 p q c h.known h.holds }

  enter_7 : {X : Claim} {p q : Purse} → Leads (At X (P p q)) (Words.enter Established) E
  enter_7 {p = p} {q = q} = record { leads = λ c h. k.enter_7 p q c h.holds }

  pub enter_8 : {p q : Purse} → Leads (At (paid In Window Established) (P p q)) (Words.enter TimerRecovery) E
  enter_8 {p} {q} = record { leads = λ c h. k.enter_8 h.known.1 p q c h.known.0 h.holds }

  -- layer 3 asks in state 5, or an establishment fails
  pub ask_anew : {p q : Purse} → Leads (At (idle In) (P p q)) (Words.asked_is true then Words.owed_is false) E
  ask_anew {p} {q} = record { leads = λ c h. k.ask_anew p q c h.known h.holds }

  pub tell_failure : {X : Claim} {p q : Purse} → Leads (At X (P p (another q))) (awaiting.tell_failure t) (At X (P p q))
  tell_failure = depending_leads is_owed (owed_off ▹ release_confirm) release_indication

  -- of what is known, only this counts
  pub knowing : {X Y : Claim} {Q R : Course → Type 0} {f : Step} → ((a s n : ℕ) (state : State) → X a s n state → Y a s n state)
      → Leads (At Y Q) f R → Leads (At X Q) f R
  knowing w x = from_more (λ c h. record { known = w _ _ _ _ h.known; holds = h.holds }) x

  pub begun_by : {X : Claim} {f : Step} → Leads (At X (P two two)) f E → Leads (At X S) f E
  begun_by x = from_more (λ c h. record { known = h.known; holds = k.begins c h.holds }) x

  in_sequence : {X : Claim} {p q : Purse} → Taken → (f : Bool) (octets : List ℕ)
      → Leads (Passed (At X (P (another p) (another q))) is_own_busy false) (MultipleFrame.in_sequence t f octets) (At X (P p q))
  in_sequence {p = p} {q = q} may true octets =
      record { leads = λ c h. (ready false).leads _ (record { known = h.holds.known; holds = k.taken may (another p) q octets c h.holds.holds }) }
  in_sequence {p = p} {q = q} may false octets =
      record { leads = λ c h. record { known = h.holds.known; holds = k.owing p q _ h.told (k.taken may (another p) q octets c h.holds.holds) } }

  out_of_sequence : {X : Claim} {p q : Purse} (f : Bool) → Leads (At X (P (another p) q)) (MultipleFrame.out_of_sequence t f) (At X (P p q))
  out_of_sequence {p = p} {q = q} f =
      depending_leads _ (bit_leads f (ready false) silent)
      (record { leads = λ c h. (reject f).leads _ (record { known = h.known; holds = k.rejecting (another p) q c h.holds }) })

  passed : {X : Claim} {p q : Purse} {f : Step} {R : Course → Type 0} {b : Bool} → Leads (At X (P p q)) f R
      → Leads (Passed (At X (P p (another q))) is_own_busy b) f R
  passed {p = p} {q = q} x = from_more (λ c h. record { known = h.holds.known; holds = k.untold p q c h.holds.holds }) x

  contents : {X : Claim} {p q : Purse} → Taken → (ns : Seq) (f : Bool) (octets : List ℕ)
      → Leads (At X (P (another p) (another q))) (MultipleFrame.contents_in_7_8 t ns f octets) (At X (P p q))
  contents may ns f octets =
      tested_leads is_own_busy (passed (bit_leads f (ready false) silent))
      (depending_leads (MultipleFrame.is_next ns) (in_sequence may f octets) (passed (out_of_sequence f)))

  -- the link is established again, and an N(R) that is not valid leads to it
  pub failed : {X : Claim} {p q : Purse} (e : ErrorCode) → Leads (At X (P (another p) (another q))) (MultipleFrame.failed t e) E
  failed e = error e ▹ flags ▹ send (sabme_waits t true) ▹ repeats 0 (omega arith) ▹ start T200 ▹ enter_5 false (λ a s n state x on. absurd (true≢false (sym on)))

  by-number : {X : Claim} {Y : ℕ → Claim} (nr : Seq) (f : ℕ → Step)
      → ((a s n i : ℕ) (state : State) → X a s n state → named a s nr ≡ Some i → Y i a s n state)
      → ((i : ℕ) → Leads (At (Y i) (P one one)) (f i) E)
      → (c : Course) → At X (P one one) c → (o : Option ℕ) → named c.link.a c.link.s nr ≡ o
      → E (elim o [ None ↦ (Words.error t ErrorCode.J then Words.re_establish t) c | Some n ↦ f n c ])
  by-number nr f w x c h None e = (failed ErrorCode.J).leads c h
  by-number nr f w x c h (Some i) e = (x i).leads c (record { known = w _ _ _ i _ h.known e; holds = h.holds })

  number : {X : Claim} {Y : ℕ → Claim} (nr : Seq) {f : ℕ → Step}
      → ((a s n i : ℕ) (state : State) → X a s n state → named a s nr ≡ Some i → Y i a s n state)
      → ((i : ℕ) → Leads (At (Y i) (P one one)) (f i) E) → Leads (At X (P one one)) (Words.by_number t nr f) E
  number nr {f} w x = record { leads = λ c h. by-number nr f w x c h (named c.link.a c.link.s nr) refl }

  supervisory : {X : Claim} {Y : ℕ → Claim} (own : MultipleFrame.Particulars) (busy b pf : Bool) (nr : Seq) (effect : Bool → ℕ → Step)
      → ((final : Bool) → Leads (At X (P one two)) (own.told_of final) (At X (P one one)))
      → ((a s n i : ℕ) (state : State) → X a s n state → named a s nr ≡ Some i → Y i a s n state)
      → ((final : Bool) (i : ℕ) → Leads (At (Y i) (P one one)) (effect final i) E)
      → Leads (At X (P two two)) (MultipleFrame.supervisory t own busy b pf nr effect) E
  supervisory own busy b pf nr effect y w x =
      peer_busy busy ▹ (bit_leads (b && pf) (ready false) silent) ▹ y (MultipleFrame.is_final b pf) ▹ number nr w (x (MultipleFrame.is_final b pf))

  -- contents that are outstanding are released, and layer 3 is told
  loose : {R Q : Course → Type 0} {X : Claim} {f : Step} → Leads R f (At X Q) → Leads R f (At anything Q)
  loose x = to_less (λ c h. record { known = tt; holds = h.holds }) x

  emptied : {X : Claim} {p q : Purse}
      → Leads (At X (P p (another q))) (depending_on has_outstanding (Words.discard then Words.establish_indication t) nothing) (At anything (P p q))
  emptied = depending_leads has_outstanding (loose (discard ▹ establish_indication)) (loose untold)

  -- UI and XID in any state
  pub unserved : {X : Claim} → Leads (At X S) Words.leave_unserved E
  unserved = record { leads = λ c h. k.unserved c h.holds }

  pub malformed : {X : Claim} (e : ErrorCode) → Leads (At X S) (Words.malformed t e) E
  malformed e = read_leads t unserved (begun_by (ends (error e)))

  unexpected : {X : Claim} (octets : List ℕ) → Leads (At X S) (Words.unexpected t octets) E
  unexpected octets = bit_leads _ (malformed ErrorCode.O) unserved

  unit_data : {X : Claim} {f : Step} → Units → (octets : List ℕ) → Leads (At X S) f E → Leads (At X S) (Words.unit_data t f octets) E
  unit_data may octets long = bit_leads _ long (record { leads = λ c h. k.unit may octets c h.holds })

  -- layer 3 asks for an establishment, or by annex B the other side does
  pub establish : {p q : Purse} → Leads (At (idle In) (P (another p) q)) (establish_in_4 t) E
  establish = flags ▹ send (sabme_waits t true) ▹ repeats 0 (omega arith) ▹ start T200 ▹ enter_5 {X = idle In} true (λ a s n state x on. x)

  -- a link that is up is released
  pub release_up : {X : Claim} {p q : Purse} → Leads (At X (P (another p) q)) (MultipleFrame.release_in_7_8 t) E
  release_up = discard ▹ settled ▹ send (may_wait t (command (Disc true)) refl refl (omega arith) refl) ▹ repeats 0 (omega arith) ▹ start T200 ▹ enter_6

  -- state 4
  row_in_4 : (octets : List ℕ) (control : Control) → Fits Units Anew (Unit {0}) control → Leads (At (idle In) S) (frame_in_4 t octets control) E
  row_in_4 octets (Sabme p) may =
      begun_by (send (ua_waits t p) ▹ flags ▹ zero may ▹ start T203 ▹ establish_indication ▹ enter_7)
  row_in_4 octets (Disc p) may = begun_by (ends (send (may_wait t (response (Dm p)) refl refl (omega arith) refl)))
  row_in_4 octets (Ua true) may = begun_by (ends (error ErrorCode.C))
  row_in_4 octets (Ua false) may = begun_by (ends (error ErrorCode.D))
  row_in_4 octets (Dm false) may = read_leads t unserved (begun_by establish)
  row_in_4 octets (Ui p) may = unit_data may octets (malformed ErrorCode.O)
  row_in_4 octets (Xid pf) may = begun_by (ends xid)
  row_in_4 octets (Information ns nr p) may = unexpected octets
  row_in_4 octets other may = unserved

  -- state 5
  row_in_5 : {X : Claim} (octets : List ℕ) (control : Control) → Fits Units Anew (Unit {0}) control → Leads (At X S) (frame_in_5 t octets control) E
  row_in_5 octets (Sabme p) may = begun_by (ends (send (ua_waits t p)))
  row_in_5 octets (Disc p) may = begun_by (ends (send (may_wait t (response (Dm p)) refl refl (omega arith) refl)))
  row_in_5 octets (Ua true) may =
      begun_by (depending_leads is_owed (reset may ▹ owed_off ▹ release_up) (depending_leads is_asked (loose establish_confirm) emptied ▹ zero may ▹ start T203 ▹ enter_7))
  row_in_5 octets (Ua false) may = begun_by (ends (error ErrorCode.D))
  row_in_5 octets (Dm true) may = begun_by (discard ▹ tell_failure ▹ no_timer ▹ enter_4)
  row_in_5 octets (Dm false) may = unserved
  row_in_5 octets (Ui p) may = unit_data may octets (malformed ErrorCode.O)
  row_in_5 octets (Xid pf) may = begun_by (ends xid)
  row_in_5 octets (Information ns nr p) may = unexpected octets
  row_in_5 octets other may = unserved

  -- state 6
  row_in_6 : (octets : List ℕ) (control : Control) → Fits Units Anew (Unit {0}) control → Leads (At (idle In) S) (frame_in_6 t octets control) E
  row_in_6 octets (Sabme p) may = begun_by (ends (send (may_wait t (response (Dm p)) refl refl (omega arith) refl)))
  row_in_6 octets (Disc p) may = begun_by (ends (send (ua_waits t p)))
  row_in_6 octets (Ua true) may = begun_by (release_confirm ▹ no_timer ▹ enter_4)
  row_in_6 octets (Ua false) may = begun_by (ends (error ErrorCode.D))
  row_in_6 octets (Dm true) may = begun_by (release_confirm ▹ no_timer ▹ enter_4)
  row_in_6 octets (Dm false) may = unserved
  row_in_6 octets (Ui p) may = unit_data may octets (malformed ErrorCode.O)
  row_in_6 octets (Xid pf) may = begun_by (ends xid)
  row_in_6 octets (Information ns nr p) may = unexpected octets
  row_in_6 octets other may = unserved

  -- states 7 and 8, by what only one of the two does
  row_in_7_8 : (here : State) (own : MultipleFrame.Particulars)
      → ((control : Control) (final : Bool) → Leads (At (starts In Window here control) (P one two)) (own.told_of final) (At (starts In Window here control) (P one one)))
      → ((i : ℕ) → Leads (At (names In i here) (P one one)) (own.by_information i) E)
      → ((final : Bool) (i : ℕ) → Leads (At (names In i here) (P one one)) (own.by_rr final i) E)
      → ((final : Bool) (i : ℕ) → Leads (At (names In i here) (P one one)) (own.by_rnr final i) E)
      → ((final : Bool) (i : ℕ) → Leads (At (λ a s n state. names In i here a s n state × Window) (P one one)) (own.by_rej final i) E)
      → Leads (At anything S) own.by_dm E → IsTrue (is_multiple_frame here)
      → (b : Bool) (octets : List ℕ) (control : Control) → Fits Units Anew Taken control
      → Leads (At (starts In Window here control) S) (MultipleFrame.frame_in_7_8 own t b octets control) E
  row_in_7_8 here own told information rr rnr rej dm up b octets (Information ns nr p) may =
      begun_by (bit_leads _ (failed ErrorCode.O) (contents may ns p octets ▹ number nr (names-in here (Information ns nr p) nr) information))
  row_in_7_8 here own told information rr rnr rej dm up b octets (ReceiveReady nr pf) may =
      begun_by (supervisory own false b pf nr own.by_rr (told (ReceiveReady nr pf)) (names-in here (ReceiveReady nr pf) nr) rr)
  row_in_7_8 here own told information rr rnr rej dm up b octets (ReceiveNotReady nr pf) may =
      begun_by (supervisory own true b pf nr own.by_rnr (told (ReceiveNotReady nr pf)) (names-in here (ReceiveNotReady nr pf) nr) rnr)
  row_in_7_8 here own told information rr rnr rej dm up b octets (Reject nr pf) may =
      begun_by (count _ ▹ supervisory own false b pf nr own.by_rej (told (Reject nr pf))
      (λ a s n i state x e. (names-in here (Reject nr pf) nr a s n i state x e, x.1 nr i up refl e)) rej)
  row_in_7_8 here own told information rr rnr rej dm up b octets (Sabme p) may =
      begun_by (send (ua_waits t p) ▹ flags ▹ error ErrorCode.F ▹ emptied ▹ zero may ▹ start T203 ▹ enter_7)
  row_in_7_8 here own told information rr rnr rej dm up b octets (Disc p) may =
      begun_by (discard ▹ settled ▹ send (ua_waits t p) ▹ release_indication ▹ no_timer ▹ enter_4)
  row_in_7_8 here own told information rr rnr rej dm up b octets (Ua true) may = begun_by (ends (error ErrorCode.C))
  row_in_7_8 here own told information rr rnr rej dm up b octets (Ua false) may = begun_by (ends (error ErrorCode.D))
  row_in_7_8 here own told information rr rnr rej dm up b octets (Dm true) may = knowing (λ a s n state x. tt) dm
  row_in_7_8 here own told information rr rnr rej dm up b octets (Dm false) may = begun_by (failed ErrorCode.E)
  row_in_7_8 here own told information rr rnr rej dm up b octets (Frmr f) may = begun_by (failed ErrorCode.K)
  row_in_7_8 here own told information rr rnr rej dm up b octets (Ui p) may = unit_data may octets (read_leads t unserved (begun_by (failed ErrorCode.O)))
  row_in_7_8 here own told information rr rnr rej dm up b octets (Xid pf) may = begun_by (ends xid)

  -- what a valid N(R) does in state 7, and in state 8
  acknowledged_in_7 : (i : ℕ) → Leads (At (names In i Established) (P one one)) (Established.acknowledged_in_7 i) E
  acknowledged_in_7 i =
      depending_leads (Established.is_all_sent i) (ends (acknowledge i refl ▹ start T203))
      (depending_leads (Established.is_beyond_acknowledged i) (ends (acknowledge i refl ▹ start T200)) stays)

  again : (i : ℕ) → Leads (At (λ a s n state. names In i Established a s n state × Window) (P one one)) (Established.acknowledged_by_rej_in_7 i) E
  again i = record { leads = λ c h. k.again h.known.1 one one i _ (omega arith) h.known.0.to (k.acknowledge one one i Established c h.known.0.from h.known.0.to h.known.0.state_is refl h.holds) }

  recovered : (timer : LinkTimer) (final : Bool) (i : ℕ) → Leads (At (names In i TimerRecovery) (P one one)) (acknowledged_in_8 timer final i) E
  recovered timer final i =
      bit_leads final
      (record { leads = λ c h. k.recovered one one i timer _ (omega arith) h.known.to h.known.state_is (k.acknowledge one one i TimerRecovery c h.known.from h.known.to h.known.state_is refl h.holds) })
      (ends (acknowledge i refl))

  -- a final response that no command asked for
  unsolicited : {X : Claim} (final : Bool) → Leads (At X (P one two)) (Established.unsolicited t final) (At X (P one one))
  unsolicited final = bit_leads final (error ErrorCode.A) untold

  -- a frame in any state
  pub frame_by : (here : State) (b : Bool) (octets : List ℕ) (control : Control) → Fits Units Anew Taken control
      → Leads (At (starts In Window here control) S) (frame_in here t b octets control) E
  frame_by TeiAssigned b octets control may = knowing (λ a s n state x. inr (TeiAssigned, x.0, refl)) (row_in_4 octets control (grind arith))
  frame_by AwaitingEstablishment b octets control may = row_in_5 octets control (grind arith)
  frame_by AwaitingRelease b octets control may = knowing (λ a s n state x. inr (AwaitingRelease, x.0, refl)) (row_in_6 octets control (grind arith))
  frame_by Established b octets control may =
      row_in_7_8 Established (Established.particulars_in_7 t) (λ control'. unsolicited) (λ i. depending_leads is_peer_busy (ends (acknowledge i refl)) (acknowledged_in_7 i))
      (λ final. acknowledged_in_7) (λ final i. ends (acknowledge i refl ▹ start T200)) (λ final. again) (begun_by (ends (error ErrorCode.B))) refl b octets control may
  frame_by TimerRecovery b octets control may =
      row_in_7_8 TimerRecovery (particulars_in_8 t) (λ control' final. untold) (λ i. ends (acknowledge i refl))
      (recovered T203) (recovered T200) (λ final i. knowing (λ a s n state x. x.0) (recovered T203 final i)) (begun_by (failed ErrorCode.B)) refl b octets control may
