-- What a row does, said once: a claim that every word of the tables leads on is led on by every event.
use Rattle.model_link.proofs.Vocabulary.{with_expiry, arith, ◌≡◌, ℕ, ◌≤◌, Bool, true, false, cond, List, [], ◌∷◌, Option, Some, None, inr, refl, Control, ErrorCode, Refusal, State, TeiAssigned, AwaitingEstablishment, AwaitingRelease, Established, TimerRecovery, LinkTimer, T200, T203, ControlFrame, Terms, Link, is_own_busy, Course, Step, ◌then◌, nothing, ClearBusy, Data, Establish, Event, Release}
use Rattle.model_link.proofs.Vocabulary.{Request, SetBusy}
use Rattle.model_link.proofs.Vocabulary.{cleared}
use Rattle.model_link.proofs.Vocabulary.{expired, frame, offer, overlong, received, requested, undefined, wrong_size, own_busy_is, report_receiver_status, clear_busy_in_7_8, set_busy_in_7_8, granted, refusal, establish_in, release_in, release_in_5, is_awaiting_acknowledgement, is_pending, may_send_information, offer_among, send_acknowledgement, send_information, command, Disc}
use Rattle.lapd_frame.specs.declared.readings.Reading.{Reading}
use Rattle.lapd_frame.specs.declared.readings.Reading.TheVariants.{Profile, AnnexB}
use Rattle.std.proofs.Math.Nat.{min-le_right}
use Rattle.model_link.specs.Established.{first_repeats}
use Rattle.model_link.specs.Link.{may_repeat, most_repeats, most_rc}
use Rattle.model_link.specs.Machine
use Rattle.model_link.proofs.Leads.{Leads, depending_leads, tested_leads, Passed, from_more}
use Rattle.model_link.proofs.Waits.{sabme_waits, may_wait}
use Rattle.model_link.proofs.Kept.{Purse, no_more, two, Fits, FitsEvent, Kept, any_event}
use Rattle.model_link.proofs.Careful.{Claim, At, anything, paid, QueuesFor, Queues, Careful, plainly, any_contents}
use Rattle.model_link.proofs.FrameRows.{one, repeats-low, ◌▹◌, error, release_indication, release_confirm, send, settled, repeats, repeated, start, no_timer, count, discard, ready, untold, ends, stays, enter_4, enter_6, enter_8, knowing, begun_by, malformed, establish, ask_anew, tell_failure, release_up, failed, frame_by}

-- an enquiry begins with no more repeats than there may be
few-first : (reading : Reading) (n200 : ℕ) (timer : LinkTimer) → first_repeats reading n200 timer ≤ n200
few-first Profile n200 timer = omega arith
few-first AnnexB n200 T200 = min-le_right 1 n200
few-first AnnexB n200 T203 = omega arith

few-counted : (t : Terms) (timer : LinkTimer) → first_repeats t.reading (most_repeats t 8) timer ≤ most_rc t
few-counted t timer = omega (arith, few-first t.reading (most_repeats t 8) timer, repeats-low t 8)

-- what a test tells may not matter
passed : {P Q : Course → Type 0} {f : Step} {test : Link → Bool} {b : Bool} → Leads P f Q → Leads (Passed P test b) f Q
passed x = from_more (λ c h. h.holds) x

-- what is not refused is served
served : (b : Bool) (o : Option Refusal) (w : Refusal) → cond b o (Some w) ≡ None → b ≡ true
served b o w e = grind arith

module _ {t : Terms} {Units Anew Taken Window Queued Offered : Type 0} {In : State → State → Type 0} {S : Course → Type 0} {P : Purse → Purse → Course → Type 0} {E : Course → Type 0} (k : Careful t Units Anew Taken Window Queued Offered In S P E) where
  pub malformed_by : {X : Claim} (here : State) (e : ErrorCode) → Leads (At X S) (Machine.malformed_in here t e) E
  malformed_by Established e = begun_by k (failed k e)
  malformed_by TimerRecovery e = begun_by k (failed k e)
  malformed_by other e = malformed k e

  pub expired_by : (here : State) (timer : LinkTimer) → Leads (At (paid In Window here) (P one two)) (Machine.expired_in here timer t) E
  expired_by TeiAssigned timer = stays k
  expired_by AwaitingEstablishment T200 =
      tested_leads (may_repeat t) (ends k (repeated k (λ c. refl) (send k (sabme_waits t true)) ▹ start k T200))
      (passed (discard k ▹ error k ErrorCode.G ▹ tell_failure k ▹ no_timer k ▹ enter_4 k))
  expired_by AwaitingEstablishment T203 = stays k
  expired_by AwaitingRelease T200 =
      tested_leads (may_repeat t) (ends k (repeated k (λ c. refl) (send k (may_wait t (command (Disc true)) refl refl (omega arith) refl)) ▹ start k T200))
      (passed (knowing k (λ a s n state x. inr (AwaitingRelease, x.0, refl)) (error k ErrorCode.H ▹ release_confirm k ▹ no_timer k ▹ enter_4 k)))
  expired_by AwaitingRelease T203 = stays k
  expired_by Established timer = repeats k _ (few-counted t timer) ▹ ready k true ▹ start k T200 ▹ enter_8 k
  expired_by TimerRecovery T200 = tested_leads (may_repeat t) (ends k (repeated k (λ c. refl) (ready k true) ▹ start k T200)) (passed (failed k ErrorCode.I))
  expired_by TimerRecovery T203 = stays k

  abbrev in_state : State → Claim
  in_state here a s n state = In state here

  owe : (c : Course) → In c.link.state AwaitingEstablishment → P one two c → E (release_in_5 c)
  owe c here h = k.owe one two _ here (k.discard one two c h)

  pub establish_by : (here : State) → Leads (At (in_state here) (P one two)) (establish_in here t) E
  establish_by TeiAssigned = knowing k (λ a s n state x. inr (TeiAssigned, x, refl)) (establish k)
  establish_by AwaitingEstablishment = discard k ▹ ask_anew k
  establish_by other = stays k

  pub release_by : (here : State) → Leads (At (in_state here) (P one two)) (release_in here t) E
  release_by TeiAssigned = ends k (release_confirm k)
  release_by AwaitingEstablishment = record { leads = λ c h. owe c h.known h.holds }
  release_by AwaitingRelease = stays k
  release_by Established = release_up k
  release_by TimerRecovery = release_up k

  still : Leads (P one two) nothing E
  still = record { leads = λ c h. k.ends one two c h }

  busy : (b : Bool) → Leads (P one two) (own_busy_is b then report_receiver_status t) E
  busy b = record { leads = λ c h. k.ends no_more two _ (k.busy no_more two b c h) }

  pub set_busy_by : Leads (P one two) (set_busy_in_7_8 t) E
  set_busy_by = depending_leads is_own_busy still (busy true)

  pub clear_busy_by : Leads (P one two) (clear_busy_in_7_8 t) E
  clear_busy_by = depending_leads is_own_busy (busy false) still

  pub granted_by : (request : Request) (full : Bool) → QueuesFor Queued request → (c : Course) → P one two c
      → refusal t c.link full request ≡ None → E (granted t request c)
  granted_by Establish full may c h e = (establish_by c.link.state).leads c (record { known = k.is_in c.link.state; holds = h })
  granted_by Release full may c h e = (release_by c.link.state).leads c (record { known = k.is_in c.link.state; holds = h })
  granted_by (Data octets) full may c h e = k.transfer may no_more two octets full c e h
  granted_by SetBusy full may c h e = set_busy_by.leads c h
  granted_by ClearBusy full may c h e = clear_busy_by.leads c h

  pub request_by : (request : Request) (full : Bool) → QueuesFor Queued request → (c : Course) → P one two c → (o : Option Refusal)
      → refusal t c.link full request ≡ o → E (elim o [ None ↦ granted t request c | Some _ ↦ c ])
  request_by request full may c h o e = grind (arith, granted_by, one, two)

  information_by : Offered → Leads (Passed (P two two) (may_send_information t) true) send_information E
  information_by may =
      record {
        leads = λ c h.
            (settled k {X = anything} ▹ depending_leads is_awaiting_acknowledgement (stays k) (ends k (start k T200))).leads _
            (record { known = tt; holds = k.give_information may two two c h.told h.holds });
      }

  acknowledgement_by : Offered → Leads (P two two) send_acknowledgement E
  acknowledgement_by may = record { leads = λ c h. k.ends two two _ (k.settled two two _ (k.give_acknowledgement may two two c h)) }

  offer_by : Offered → (ws : List ControlFrame) (c : Course) → P two two c → c.link.waiting ≡ ws → E (offer_among t ws c)
  offer_by may [] c h e =
      (tested_leads (may_send_information t) (information_by may)
      (from_more (λ c' h'. h'.holds) (depending_leads is_pending (acknowledgement_by may) (record { leads = λ c' h'. k.ends two two c' h' })))).leads c h
  offer_by may (f ∷ fs) c h e = k.give_waiting may two two f fs c e h

  told_of_clearing : (here : State) → Leads (At anything (P two two)) (Machine.told_of_clearing here t) (At anything (P two one))
  told_of_clearing here = grind (arith, untold, release_confirm, release_indication, tell_failure)

  -- every event that is among those of the claim
  pub event_by : Window → Offered → (e : Event) → FitsEvent Units Anew Taken e → Queues Queued e → Leads S (Machine.step t e) E
  event_by w o (received (frame f)) may room =
      record { leads = λ c h. (frame_by k c.link.state f.address.command f.info f.control may).leads c (record { known = (k.is_in c.link.state, λ nr i up e e'. w); holds = h }) }
  event_by w o (received undefined) may room = record { leads = λ c h. (malformed_by {X = anything} c.link.state ErrorCode.L).leads c (record { known = tt; holds = h }) }
  event_by w o (received wrong_size) may room = record { leads = λ c h. (malformed_by {X = anything} c.link.state ErrorCode.N).leads c (record { known = tt; holds = h }) }
  event_by w o (received overlong) may room = record { leads = λ c h. (malformed_by {X = anything} c.link.state ErrorCode.O).leads c (record { known = tt; holds = h }) }
  event_by w o (expired timer) may room =
      record { leads = λ c h. (depending_leads (Machine.is_running timer) (count k (with_expiry timer) ▹ expired_by c.link.state timer) (stays k)).leads c (record { known = (k.is_in c.link.state, w); holds = k.unsent one two c (k.begins c h) }) }
  event_by w o (requested request full) may room =
      record { leads = λ c h. request_by request full room c (k.unsent one two c (k.begins c h)) (refusal t c.link full request) refl }
  event_by w o offer may room = record { leads = λ c h. offer_by o c.link.waiting c (k.begins c h) refl }
  event_by w o cleared may room = record { leads = λ c h. (begun_by k (told_of_clearing c.link.state ▹ record { leads = λ c h. k.begin_anew may two one c h.holds })).leads c (record { known = tt; holds = h }) }

-- The same of a claim that asks for no more.
module _ {t : Terms} {Units Anew Taken : Type 0} {S : Course → Type 0} {P : Purse → Purse → Course → Type 0} {E : Course → Type 0} (k : Kept t Units Anew Taken S P E) where
  pub frame_row : (here : State) (b : Bool) (octets : List ℕ) (control : Control) → Fits Units Anew Taken control → Leads S (Machine.frame_in here t b octets control) E
  frame_row here b octets control may =
      from_more (λ c h. record { known = (tt, λ nr i up e e'. tt); holds = h }) (frame_by (plainly k) here b octets control may)

  pub event_row : (e : Event) → FitsEvent Units Anew Taken e → Leads S (Machine.step t e) E
  event_row e may = event_by (plainly k) tt tt e may (grind (arith, any_contents))

-- every event, of a claim of all frames
pub every_event : {t : Terms} {S : Course → Type 0} {P : Purse → Purse → Course → Type 0} {E : Course → Type 0}
    → Kept t (Unit {0}) (Unit {0}) (Unit {0}) S P E → (e : Event) → Leads S (Machine.step t e) E
every_event k e = event_row k e (any_event e)
