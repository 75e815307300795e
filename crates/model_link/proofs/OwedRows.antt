-- A release is owed in state 5 alone, and rightly: every event keeps that.
use Rattle.model_link.proofs.Vocabulary.{arith, ◌≡◌, ◌≢◌, ◌≤◌, ℕ, Bool, true, false, cond, IsTrue, List, length, Option, Some, None, refl, sym, ◌∙◌, true≢false, length-take-le, Control, Ua, Dm, ErrorCode, State, TeiAssigned, AwaitingEstablishment, AwaitingRelease, Established, TimerRecovery, LinkTimer, T200, T203, Terms, Link, IsSound, Course, Step, begun, Event, Request, Refusal, Received}
use Rattle.model_link.proofs.Vocabulary.{after, course, frame_in, cleared, expired, frame, offer, overlong, received, requested, undefined, wrong_size, granted, refusal, has_outstanding, is_asked, is_owed, accepted_in_5, carry_out, frame_in_5, tell_failure, inl, inr, ◌⊎◌, ControlFrame, WrongState, Establish, Release, Data, SetBusy, ClearBusy, is_multiple_frame, is_running, malformed}
use Rattle.model_link.proofs.Vocabulary.{malformed_in, offer_among, with_expiry, discard, enter, error, expired_in, no_timer, ◌then◌, establish_in, release_in, release_in_5}
use Rattle.lapd_frame.specs.declared.readings.Reading.{Reading}
use Rattle.lapd_frame.specs.declared.readings.Reading.TheVariants.{Profile, AnnexB}
use Rattle.model_link.specs.Sound.{IsOwing}
use Rattle.model_link.specs.Link.{may_repeat}
use Rattle.model_link.specs.Requests.{serves}
use Rattle.model_link.specs.Words.{count}
use Rattle.model_link.proofs.Leads.{Leads, Passed, told_ways, then_leads, to_less, leaves, keeping_then, nothing_leads, depending_leads, tested_leads, bit_leads, read_leads, from_more}
use Rattle.model_link.proofs.Careful.{Careful, any_contents}
use Rattle.model_link.proofs.Kept.{any_event}
use Rattle.model_link.proofs.Rows.{event_by}
use Rattle.model_link.proofs.SoundRows.{is_in}

-- In the other states none is owed, and no row from there begins to owe one.
record IsOff (state : State) (owed : Bool) : Type 0 where
  off : owed ≡ false
  other : state ≢ AwaitingEstablishment

record IsNone (owed : Bool) : Type 0 where
  off : owed ≡ false

none : IsNone false
none = record { off = refl }

ended : {state : State} {owed : Bool} → IsOff state owed → IsNone owed
ended h = record { off = h.off }

cannot : {state : State} {owed : Bool} → state ≡ AwaitingEstablishment → IsOff state owed → IsNone true
cannot e h = absurd (h.other e)

still : {state : State} {owed : Bool} → IsOff state owed → IsOff state false
still h = record { off = refl; other = h.other }

words : (t : Terms) → Careful t (Unit {0}) (Unit {0}) (Unit {0}) (Unit {0}) (Unit {0}) (Unit {0}) is_in (λ c. IsOff c.link.state c.link.owed) (λ p q c. IsOff c.link.state c.link.owed) (λ c. IsNone c.link.owed)
words t = search (none, ended, cannot, still) depth 12 fits 4000

elsewhere : (t : Terms) (e : Event) (l : Link) → IsOff l.state l.owed → (after t e l).owed ≡ false
elsewhere t e l h = ((event_by (words t) tt tt e (any_event e) (grind (arith, any_contents))).leads (begun l) h).off

-- In state 5: what `IsOwing` says, of what it speaks of.
abbrev Rightly : Terms → State → Bool → Bool → ℕ → ℕ → Type 0
Rightly t state asked owed n a = IsTrue owed → (state ≡ AwaitingEstablishment) × (t.reading ≡ AnnexB) × (asked ≡ false) × (n ≡ a)

record Right (t : Terms) (state : State) (asked owed : Bool) (n a : ℕ) : Type 0 where
  rightly : Rightly t state asked owed n a

abbrev On : Terms → Course → Type 0
On t c = Right t c.link.state c.link.asked c.link.owed (length c.link.contents) c.link.a

-- none is owed
abbrev Off : Course → Type 0
Off c = IsNone c.link.owed

module _ (t : Terms) where
  off : {state : State} {asked owed : Bool} {n a : ℕ} → IsNone owed → Right t state asked owed n a
  off h = record { rightly = λ on. absurd (true≢false (sym on ∙ h.off)) }

  fine : {P : Course → Type 0} {f : Step} → Leads P f Off → Leads P f (On t)
  fine {f = f} x = record { leads = λ c h. off (x.leads c h) }

  -- the rows that leave state 5
  not-owed : {P : Course → Type 0} {f : Step} → Leads Off f Off → Leads (Passed P is_owed false) f Off
  not-owed x = record { leads = λ c h. x.leads c (record { off = h.told }) }

  accepted : Leads Off (accepted_in_5 t) Off
  accepted = search (leaves, keeping_then, depending_leads, nothing_leads) depth 14 fits 6000

  carried_out : {P : Course → Type 0} → Leads P (carry_out t) Off
  carried_out = record { leads = λ c h. none }

  told_off : {P : Course → Type 0} → Leads P (tell_failure t) Off
  told_off = tested_leads is_owed (record { leads = λ c h. none }) (not-owed (leaves (λ c h. h)))

  fails : {P : Course → Type 0} (here : State) → Leads P (tell_failure t then no_timer then enter here) (On t)
  fails here = fine (then_leads told_off (leaves {P = Off} {f = no_timer then enter here} (λ c h. h)))

  anything : {f : Step} → Leads (On t) f (λ c. Unit {0})
  anything = record { leads = λ c h. tt }

  frame_right : (octets : List ℕ) (control : Control) → Leads (On t) (frame_in_5 t octets control) (On t)
  frame_right octets (Ua true) = fine (tested_leads is_owed carried_out (not-owed accepted))
  frame_right octets (Dm true) = then_leads (anything {f = discard}) (fails TeiAssigned)
  frame_right octets other = search (leaves, read_leads, bit_leads) depth 14 fits 6000

  timer_right : (timer : LinkTimer) → Leads (On t) (expired_in AwaitingEstablishment timer t) (On t)
  timer_right T200 =
      depending_leads (may_repeat t) (leaves (λ c h. h))
      (then_leads (anything {f = discard then error t ErrorCode.G}) (fails TeiAssigned))
  timer_right T203 = nothing_leads

  malformed_right : (e : ErrorCode) → Leads (On t) (malformed t e) (On t)
  malformed_right e = search (leaves, read_leads) depth 14 fits 6000

  offer_right : (ws : List ControlFrame) (c : Course) → On t c → On t (offer_among t ws c)
  offer_right ws c h = grind (arith, told_ways)

  -- what layer 3 asks for
  served : (b : Bool) (o : Option Refusal) (w : Refusal) → cond b o (Some w) ≡ None → b ≡ true
  served b o w e = grind arith

  by-annex-b : (reading : Reading) (here : State) (owed : Bool) → here ≡ AwaitingEstablishment → serves reading here owed Release ≡ true → reading ≡ AnnexB
  by-annex-b reading here owed five e = grind arith

  not-up : (here : State) → here ≡ AwaitingEstablishment → is_multiple_frame here ≡ true → ⊥
  not-up here five e = grind arith

  establishes : (here : State) → here ≡ AwaitingEstablishment → (c : Course) → On t (establish_in here t c)
  establishes AwaitingEstablishment five c = off none
  establishes here five c = grind arith

  releases : (here : State) → here ≡ AwaitingEstablishment → (c : Course) → c.link.state ≡ AwaitingEstablishment → c.link.a ≤ length c.link.contents
      → t.reading ≡ AnnexB → On t (release_in here t c)
  releases AwaitingEstablishment five c at low reading = record { rightly = λ on. (at, reading, refl, length-take-le c.link.a c.link.contents low) }
  releases here five c at low reading = grind arith

  granted_right : (request : Request) (full : Bool) (c : Course) → c.link.state ≡ AwaitingEstablishment → c.link.a ≤ length c.link.contents
      → refusal t c.link full request ≡ None → On t (granted t request c)
  granted_right Establish full c at low e = establishes c.link.state at c
  granted_right Release full c at low e =
      releases c.link.state at c at low (by-annex-b t.reading c.link.state c.link.owed at (served (serves t.reading c.link.state c.link.owed Release) _ WrongState e))
  granted_right (Data octets) full c at low e = absurd (not-up c.link.state at (served (is_multiple_frame c.link.state) _ WrongState e))
  granted_right SetBusy full c at low e = absurd (not-up c.link.state at (served (is_multiple_frame c.link.state) _ WrongState e))
  granted_right ClearBusy full c at low e = absurd (not-up c.link.state at (served (is_multiple_frame c.link.state) _ WrongState e))

  request_right : (request : Request) (full : Bool) (c : Course) → c.link.state ≡ AwaitingEstablishment → c.link.a ≤ length c.link.contents → On t c
      → (o : Option Refusal) → refusal t c.link full request ≡ o → On t (elim o [ None ↦ granted t request c | Some _ ↦ c ])
  request_right request full c at low h None e = granted_right request full c at low e
  request_right request full c at low h (Some w) e = h

  -- every event in state 5
  frames : (here : State) → here ≡ AwaitingEstablishment → (b : Bool) (octets : List ℕ) (control : Control) → Leads (On t) (frame_in here t b octets control) (On t)
  frames AwaitingEstablishment five b octets control = frame_right octets control
  frames TeiAssigned five b octets control = grind arith
  frames AwaitingRelease five b octets control = grind arith
  frames Established five b octets control = grind arith
  frames TimerRecovery five b octets control = grind arith

  malforms : (here : State) → here ≡ AwaitingEstablishment → (e : ErrorCode) → Leads (On t) (malformed_in here t e) (On t)
  malforms AwaitingEstablishment five e = malformed_right e
  malforms TeiAssigned five e = grind arith
  malforms AwaitingRelease five e = grind arith
  malforms Established five e = grind arith
  malforms TimerRecovery five e = grind arith

  expires : (here : State) → here ≡ AwaitingEstablishment → (timer : LinkTimer) → Leads (On t) (expired_in here timer t) (On t)
  expires AwaitingEstablishment five timer = timer_right timer
  expires TeiAssigned five timer = grind arith
  expires AwaitingRelease five timer = grind arith
  expires Established five timer = grind arith
  expires TimerRecovery five timer = grind arith

  here_right : (e : Event) (l : Link) → l.state ≡ AwaitingEstablishment → l.a ≤ length l.contents → On t (begun l) → On t (course t e l)
  here_right (received (frame f)) l at low h = (frames l.state at f.address.command f.info f.control).leads (begun l) h
  here_right (received undefined) l at low h = (malforms l.state at ErrorCode.L).leads (begun l) h
  here_right (received wrong_size) l at low h = (malforms l.state at ErrorCode.N).leads (begun l) h
  here_right (received overlong) l at low h = (malforms l.state at ErrorCode.O).leads (begun l) h
  here_right (expired timer) l at low h =
      (depending_leads (is_running timer) (then_leads (leaves {P = On t} {f = count (with_expiry timer)} (λ c x. x)) (expires l.state at timer)) nothing_leads).leads (begun l) h
  here_right (requested request full) l at low h = request_right request full (begun l) at low h (refusal t l full request) refl
  here_right offer l at low h = offer_right l.waiting (begun l) h
  here_right cleared l at low h = off none

-- A sound link owes a release rightly after every event.
is-five : (state : State) → (state ≡ AwaitingEstablishment) ⊎ (state ≢ AwaitingEstablishment)
is-five AwaitingEstablishment = inl refl
is-five TeiAssigned = inr (λ e. grind arith)
is-five AwaitingRelease = inr (λ e. grind arith)
is-five Established = inr (λ e. grind arith)
is-five TimerRecovery = inr (λ e. grind arith)

not-here : (owed : Bool) (state : State) → (IsTrue owed → state ≡ AwaitingEstablishment) → state ≢ AwaitingEstablishment → owed ≡ false
not-here true state h other = absurd (other (h refl))
not-here false state h other = refl

pub owed-after : (t : Terms) (e : Event) (l : Link) → IsSound t l → IsTrue (after t e l).owed → IsOwing t (after t e l)
owed-after t e l h = go (is-five l.state)
  where
    go : (l.state ≡ AwaitingEstablishment) ⊎ (l.state ≢ AwaitingEstablishment) → IsTrue (after t e l).owed → IsOwing t (after t e l)
    go (inl at) on =
        let rightly = (here_right t e l at (omega (arith, h.ordered, h.accepted)) (record { rightly = λ owed. ((h.owed owed).state, (h.owed owed).reading, (h.owed owed).asked, (h.owed owed).queue) })).rightly on in
        record { state = rightly.0; reading = rightly.1; asked = rightly.2; queue = rightly.3 }
    go (inr other) on = absurd (true≢false (sym on ∙ elsewhere t e l (record { off = not-here l.owed l.state (λ owed. (h.owed owed).state) other; other = other })))
