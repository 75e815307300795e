-- Worked values: control frames that are due, and that wait.
use Rattle.std.specs.Prelude.{◌≡◌, List, [], ◌∷◌, ◌++◌, true, false, refl, ℕ}
use Rattle.model_bits.specs.Stream as stream
use Rattle.lapd_frame.specs.declared.controls.Control.{Control}
use Rattle.lapd_frame.specs.declared.controls.Control.TheVariants.{ReceiveReady, ReceiveNotReady, Reject, Sabme, Disc, Ua, Dm, Xid}
use Rattle.lapd_frame.specs.declared.services.Service.TheVariants.{Call}
use Rattle.lapd_frame.specs.declared.timers.Timer.TheVariants.{T200, T203}
use Rattle.lapd_frame.specs.Reading.{reading, header_of, control_of, unnumbered_of, supervisory_of}
use Rattle.lapd_frame.specs.Senders.{exchanged, reading as read_by}
use Rattle.lapd_seq.specs.Circle.{named, distance_of}
use Rattle.lapd_seq.specs.Numbers.{seq}
use Rattle.model_teis.specs.network.Events as teis
use Rattle.laws_link.specs.Waiting.{as_response, as_command}
use Rattle.model_link.specs.declared.frames.ControlFrame.{ControlFrame}
use Rattle.model_line.specs.Event.{hears, expiry}
use Rattle.model_line.specs.Machine as lines
use Rattle.model_line.specs.Request.{Assign, Remove, Establish, Release, SetBusy, ClearBusy, Deactivate}
use Rattle.model_card.specs.Event.{Event, at}
use Rattle.model_card.specs.Run.{moments}
use Rattle.laws_line.specs.card.Worked.{usual, on_0, up}
use Rattle.laws_trace.specs.ControlFrames.{answer_to, answers}
use Rattle.laws_trace.specs.Observer.{Observed, in_state}
use Rattle.laws_trace.specs.Outgoing.{outgoing_of}
use Rattle.laws_trace.specs.WorkedUnits.{calls, frame_comes}

-- What waits on the link after a list of events, to the observer.
abbrev waiting : List Event → List ControlFrame
waiting events = (outgoing_of usual Call 64 0 events).waiting

-- SABME is heard, and UA waits, until it begins.
ua_waits : waiting up ≡ as_response (Ua true)
unfolding lines.after lines.answer lines.takes_slot teis.course teis.refusal moments exchanged read_by reading header_of control_of unnumbered_of
ua_waits = refl

none_waits : waiting (up ++ calls 1) ≡ []
unfolding lines.after lines.answer lines.takes_slot teis.course teis.refusal moments exchanged read_by reading header_of control_of unnumbered_of
none_waits = refl

-- Where the TEI leaves the line before a call, and comes again, the UA that waited waits no more;
gone_with_its_tei : waiting (up ++ (on_0 (Remove 64) ∷ on_0 (Assign 64) ∷ [])) ≡ []
unfolding lines.after lines.answer lines.takes_slot teis.course teis.refusal moments exchanged read_by reading header_of control_of unnumbered_of
gone_with_its_tei = refl

-- nor does it where the line is down.
gone_with_its_line : waiting (up ++ (on_0 (Deactivate Call 64) ∷ [])) ≡ []
unfolding lines.after lines.answer lines.takes_slot teis.course teis.refusal moments exchanged read_by reading header_of control_of unnumbered_of
gone_with_its_line = refl

-- In state 6 SABME is answered by DM, and in state 4 DISC; XID by nothing.
abbrev answers_in : ℕ → Control → List ControlFrame
answers_in state control =
    answer_to usual (in_state state) (in_state state) (record { address = record { sapi = 0; command = true; tei = 64 }; control = control; info = [] }) control

by_dm : answers_in 6 (Sabme true) ++ answers_in 4 (Disc false) ≡ as_response (Dm true) ++ as_response (Dm false)
by_dm = refl

by_none : answers_in 7 (Xid true) ≡ []
by_none = refl

-- Layer 3 becomes busy on a link that is up, and is so no more: RNR, and RR, wait behind the UA.
abbrev changes : List Event
changes = up ++ (on_0 (SetBusy Call 64) ∷ on_0 (ClearBusy Call 64) ∷ [])

changes_wait : waiting changes ≡ as_response (Ua true) ++ as_response (ReceiveNotReady (seq 0) false) ++ as_response (ReceiveReady (seq 0) false)
unfolding lines.after lines.answer lines.takes_slot teis.course teis.refusal moments seq distance_of named exchanged read_by reading header_of control_of unnumbered_of supervisory_of
changes_wait = refl

-- SABME is due as layer 3 asks for it, and again as T200 expires; and an enquiry as T203 does, and DISC as the link is
-- released.
two_wait : waiting (on_0 (Assign 64) ∷ on_0 (Establish Call 64) ∷ at 0 (expiry (T200 Call 64)) ∷ []) ≡ as_command (Sabme true) ++ as_command (Sabme true)
unfolding lines.after lines.answer lines.takes_slot teis.course teis.refusal moments
two_wait = refl

an_enquiry : waiting (up ++ at 0 (expiry (T203 Call 64)) ∷ on_0 (Release Call 64) ∷ [])
    ≡ as_response (Ua true) ++ as_command (ReceiveReady (seq 0) true) ++ as_command (Disc true)
unfolding lines.after lines.answer lines.takes_slot teis.course teis.refusal moments seq exchanged read_by reading header_of control_of unnumbered_of supervisory_of
an_enquiry = refl

-- As T200 expires for the last time, which ends state 5, none is due.
abbrev again : List Event
again = at 0 (expiry (T200 Call 64)) ∷ []

four_wait : waiting (on_0 (Assign 64) ∷ on_0 (Establish Call 64) ∷ again ++ again ++ again ++ again)
    ≡ as_command (Sabme true) ++ as_command (Sabme true) ++ as_command (Sabme true) ++ as_command (Sabme true)
unfolding lines.after lines.answer lines.takes_slot teis.course teis.refusal moments
four_wait = refl

-- Where SABME waits as often as there is room for, one more is lost.
abbrev five : List ControlFrame
five = waiting (on_0 (Assign 64) ∷ on_0 (Establish Call 64) ∷ again ++ again ++ again ++ frame_comes (0x00 ∷ 0x81 ∷ 0x7F ∷ []) ∷ [])

one_is_lost : five ≡ as_command (Sabme true) ++ as_command (Sabme true) ++ as_command (Sabme true) ++ as_command (Sabme true)
unfolding lines.after lines.answer lines.takes_slot teis.course teis.refusal moments exchanged read_by reading header_of control_of unnumbered_of
one_is_lost = refl

-- An I-frame with N(S)=1 and P=0, of which nothing is told, is answered by REJ with N(R)=0 in state 7, and by nothing
-- in state 5; a second one by nothing.
abbrev out_of_sequence : Event
out_of_sequence = frame_comes (0x00 ∷ 0x81 ∷ 0x02 ∷ 0x00 ∷ 0x41 ∷ [])

abbrev rejected : Observed
rejected = record (in_state 7) { rejected = true }

abbrev answers_it : Observed → Observed → List ControlFrame
answers_it was now = answers usual Call 64 was now out_of_sequence.what

rej_due : answers_it (in_state 7) rejected ≡ as_response (Reject (seq 0) false)
unfolding seq exchanged read_by reading header_of control_of unnumbered_of supervisory_of
rej_due = refl

none_due : answers_it (in_state 5) (in_state 5) ++ answers_it rejected rejected ≡ []
unfolding seq exchanged read_by reading header_of control_of unnumbered_of supervisory_of
none_due = refl

-- One with P=1 is answered by RR where its information has N201 octets, and by nothing where it has more.
abbrev of_eight : List ℕ
of_eight = 1 ∷ 2 ∷ 3 ∷ 4 ∷ 5 ∷ 6 ∷ 7 ∷ 8 ∷ []

abbrev answers_poll : List ℕ → List ControlFrame
answers_poll info = answers (record usual { n201 = 8 }) Call 64 (in_state 7) (in_state 7) (hears (stream.frame (0x00 ∷ 0x81 ∷ 0x00 ∷ 0x01 ∷ info)))

eight_answered : answers_poll of_eight ≡ as_response (ReceiveReady (seq 0) true)
unfolding seq exchanged read_by reading header_of control_of unnumbered_of supervisory_of
eight_answered = refl

nine_unanswered : answers_poll (0 ∷ of_eight) ≡ []
unfolding seq exchanged read_by reading header_of control_of unnumbered_of supervisory_of
nine_unanswered = refl

-- A poll is answered by RNR while layer 3 is busy.
busy_answered : answer_to usual (record (in_state 7) { own_busy = true }) (record (in_state 7) { own_busy = true })
    (record { address = record { sapi = 0; command = true; tei = 64 }; control = ReceiveReady (seq 0) true; info = [] }) (ReceiveReady (seq 0) true) ≡ as_response (ReceiveNotReady (seq 0) true)
busy_answered = refl
