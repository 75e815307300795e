-- The words of the tables.
use Rattle.std.specs.Prelude.{ℕ, ◌+◌, ◌-◌, min, nat_lt, Bool, true, false, cond, List, [], ◌∷◌, ◌++◌, length, take, drop, None, Some}
use Rattle.lapd_seq.specs.declared.numbers.Seq.{Seq}
use Rattle.lapd_seq.specs.Numbers.{seq}
use Rattle.lapd_seq.specs.Circle.{named}
use Rattle.lapd_frame.specs.declared.controls.Control.{Control}
use Rattle.lapd_frame.specs.declared.controls.Control.TheVariants.{ReceiveReady, ReceiveNotReady, Reject, Sabme}
use Rattle.lapd_frame.specs.declared.notes.Note.{Note}
use Rattle.lapd_frame.specs.Readings.{by_reading}
use Rattle.lapd_frame.specs.declared.notes.Note.TheVariants as notes
use Rattle.lapd_frame.specs.declared.notes.ErrorCode.{ErrorCode}
use Rattle.lapd_frame.specs.declared.notes.ErrorCode.TheVariants as code
use Rattle.model_link.specs.declared.states.State.{State}
use Rattle.model_link.specs.declared.states.State.TheVariants.{AwaitingEstablishment}
use Rattle.model_link.specs.declared.timers.LinkTimer.{LinkTimer}
use Rattle.model_link.specs.declared.timers.LinkTimer.TheVariants.{T200}
use Rattle.model_link.specs.declared.frames.ControlFrame.{ControlFrame}
use Rattle.model_link.specs.declared.terms.Terms.{Terms}
use Rattle.model_link.specs.declared.counts.LinkCounts.{LinkCounts}
use Rattle.model_link.specs.Counts.{with_establishment}
use Rattle.model_link.specs.Link.{Link, fresh, queue_of}
use Rattle.model_link.specs.Steps.{Course, Step, ◌then◌, by_bit, changed}

-- What layer 3 and layer management are told (clause 4.1.1, and appendix II for the errors).
abbrev pub note : Note → Step
note n c = record c { notes = c.notes ++ n ∷ [] }

abbrev pub establish_indication : Terms → Step
establish_indication t = note (notes.EstablishIndication t.service t.tei)

abbrev pub establish_confirm : Terms → Step
establish_confirm t = note (notes.EstablishConfirm t.service t.tei)

abbrev pub release_indication : Terms → Step
release_indication t = note (notes.ReleaseIndication t.service t.tei)

abbrev pub release_confirm : Terms → Step
release_confirm t = note (notes.ReleaseConfirm t.service t.tei)

abbrev pub error : Terms → ErrorCode → Step
error t e = note (notes.Error t.service t.tei e)

abbrev pub deliver : Terms → List ℕ → Step
deliver t contents c = record c { notes = c.notes ++ notes.Data t.service t.tei ∷ []; delivered = Some contents }

abbrev pub deliver_unit : Terms → List ℕ → Step
deliver_unit t contents c = record c { notes = c.notes ++ notes.Unit t.service t.tei ∷ []; unit = Some contents }

-- The state does not serve the frame.
abbrev pub leave_unserved : Step
leave_unserved c = record c { unserved = true }

-- What differs by the reading of the tables: the first step in the profile, the second by annex B.
abbrev pub read_as : Terms → Step → Step → Step
read_as t profile annex_b c = by_reading t.reading (profile c) (annex_b c)

-- An undefined frame, one of wrong size and one over N201 in states 4, 5 and 6: not served; by annex B an error is told, and
-- nothing else changes (clause 5.8.5).
abbrev pub malformed : Terms → ErrorCode → Step
malformed t e = read_as t leave_unserved (error t e)

-- An I-frame in states 4, 5 and 6 is not served; one over N201 is malformed.
abbrev pub unexpected : Terms → List ℕ → Step
unexpected t octets = by_bit (nat_lt t.n201 (length octets)) (malformed t code.O) leave_unserved

-- UI in any state: at most N201 octets are told (clause 5.2.3). What more of them do is the state's.
abbrev pub unit_data : Terms → Step → List ℕ → Step
unit_data t too_long octets = by_bit (nat_lt t.n201 (length octets)) too_long (deliver_unit t octets)

-- XID in any state: it is told, and not answered (profile).
abbrev pub xid : Terms → Step
xid t = note (notes.Xid t.service t.tei)

-- Flags, RC and the state.
abbrev pub with_peer_busy : Bool → Link → Link
with_peer_busy b l = record l { peer_busy = b }

abbrev pub with_own_busy : Bool → Link → Link
with_own_busy b l = record l { own_busy = b }

abbrev pub with_rejecting : Bool → Link → Link
with_rejecting b l = record l { rejecting = b }

abbrev pub with_pending : Bool → Link → Link
with_pending b l = record l { pending = b }

abbrev pub with_asked : Bool → Link → Link
with_asked b l = record l { asked = b }

abbrev pub with_owed : Bool → Link → Link
with_owed b l = record l { owed = b }

abbrev pub with_repeats : ℕ → Link → Link
with_repeats n l = record l { repeats = n }

abbrev pub with_one_repeat_more : Link → Link
with_one_repeat_more l = record l { repeats = l.repeats + 1 }

abbrev pub with_state : State → Link → Link
with_state state l = record l { state = state }

abbrev pub peer_busy_is : Bool → Step
peer_busy_is b = changed (with_peer_busy b)

abbrev pub own_busy_is : Bool → Step
own_busy_is b = changed (with_own_busy b)

abbrev pub rejecting_is : Bool → Step
rejecting_is b = changed (with_rejecting b)

abbrev pub pending_is : Bool → Step
pending_is b = changed (with_pending b)

abbrev pub asked_is : Bool → Step
asked_is b = changed (with_asked b)

abbrev pub owed_is : Bool → Step
owed_is b = changed (with_owed b)

abbrev pub repeats_are : ℕ → Step
repeats_are n = changed (with_repeats n)

abbrev pub repeated : Step
repeated = changed with_one_repeat_more

abbrev pub enter : State → Step
enter state = changed (with_state state)

-- All four flags go off.
abbrev pub without_flags : Link → Link
without_flags l = record l { peer_busy = false; own_busy = false; rejecting = false; pending = false }

abbrev pub clear_flags : Step
clear_flags = changed without_flags

-- A timer is started, or started anew; the other is stopped.
abbrev pub start : LinkTimer → Step
start timer c = record c { link = record c.link { running = Some timer }; started = Some timer }

-- Both timers are stopped.
abbrev pub no_timer : Step
no_timer c = record c { link = record c.link { running = None }; started = None }

-- The link is established: V(A), V(S) and V(R) become 0, and the numbers of the next establishment begin. What is not sent yet
-- begins the new list.
abbrev pub with_numbers_zero : Link → Link
with_numbers_zero l = record l { contents = drop l.s l.contents; a = 0; s = 0; r = 0; again = 0 }

abbrev pub reset_numbers : Step
reset_numbers c = record c { link = with_numbers_zero c.link; zeroed = true }

-- An establishment is counted, unless a release that is owed ends it at once.
abbrev pub with_zero : Link → Link
with_zero l = record l { contents = drop l.s l.contents; a = 0; s = 0; r = 0; again = 0; counts = with_establishment l.counts }

abbrev pub zero_numbers : Step
zero_numbers c = record c { link = with_zero c.link; zeroed = true }

-- All contents that are kept, sent or not, are given up. How many they are is told (profile).
abbrev pub without_queue : Link → Link
without_queue l = record l { contents = take l.a l.contents; s = l.a; again = 0 }

abbrev pub with_given_up : Course → ℕ
with_given_up c = c.given_up + length (queue_of c.link)

abbrev pub discard : Step
discard c = record c { link = without_queue c.link; given_up = with_given_up c }

-- The contents before number n are acknowledged, and released (clause 5.6.3.2).
abbrev pub with_acknowledged : ℕ → Link → Link
with_acknowledged n l = record l { a = n }

abbrev pub acknowledge : ℕ → Step
acknowledge n = changed (with_acknowledged n)

-- The contents from number n on are to be sent again (clauses 5.6.4 and 5.6.7).
abbrev pub with_next_sent : ℕ → Link → Link
with_next_sent n l = record l { s = n; again = min (l.again + (l.s - n)) 255 }

abbrev pub send_again_from : ℕ → Step
send_again_from n = changed (with_next_sent n)

-- One more I-frame was received in sequence.
abbrev pub with_one_received : Link → Link
with_one_received l = record l { r = l.r + 1 }

abbrev pub count_received : Step
count_received = changed with_one_received

-- Something is counted.
abbrev pub with_counted : (LinkCounts → LinkCounts) → Link → Link
with_counted change l = record l { counts = change l.counts }

abbrev pub count : (LinkCounts → LinkCounts) → Step
count change = changed (with_counted change)

-- The link is again as one that begins: what it kept is given up.
abbrev pub begin_anew : Step
begin_anew c = record c { link = fresh; started = None; zeroed = true; given_up = with_given_up c }

-- A control frame waits to be sent, as it is now. Where as many wait as may, it is lost (profile).
abbrev pub has_room : Terms → Link → Bool
has_room t l = nat_lt (length l.waiting) t.control

abbrev pub with_waiting : Terms → ControlFrame → Link → Link
with_waiting t f l = record l { waiting = cond (has_room t l) (l.waiting ++ f ∷ []) l.waiting }

abbrev pub send : Terms → ControlFrame → Step
send t f c = record c { link = with_waiting t f c.link; lost = cond {A = ℕ} (has_room t c.link) c.lost (c.lost + 1) }

abbrev pub command : Control → ControlFrame
command control = record { command = true; control = control }

abbrev pub response : Control → ControlFrame
response control = record { command = false; control = control }

-- RR, or RNR where own busy is on, with N(R) = V(R) (clauses 3.6.6 and 3.6.8).
abbrev pub rr_or_rnr : Bool → Link → Control
rr_or_rnr pf l = cond l.own_busy (ReceiveNotReady (seq l.r) pf) (ReceiveReady (seq l.r) pf)

-- A command that asks for the terminal's state (clause 5.6.7).
abbrev pub enquire : Terms → Step
enquire t c = (send t (command (rr_or_rnr true c.link)) then pending_is false) c

-- The answer to a command with P (clauses 5.6.2.1 and 5.6.3).
abbrev pub answer : Terms → Step
answer t c = (send t (response (rr_or_rnr true c.link)) then pending_is false) c

-- A response that no command asked for: RR with F=0, or RNR.
abbrev pub report_receiver_status : Terms → Step
report_receiver_status t c = (send t (response (rr_or_rnr false c.link)) then pending_is false) c

-- REJ: the I-frames from V(R) on are to be sent again (clause 5.8.1).
abbrev pub reject : Terms → Bool → Step
reject t f c = (send t (response (Reject (seq c.link.r) f)) then pending_is false) c

-- The establishment is begun again (clause 5.7.2).
abbrev pub re_establish : Terms → Step
re_establish t =
    clear_flags then send t (command (Sabme true)) then repeats_are 0 then start T200 then asked_is false
    then enter AwaitingEstablishment

-- An N(R) means the one number of a..=s with that remainder; where there is none, it is invalid (clauses 3.5.2.3 and
-- 5.8.2).
abbrev pub by_number : Terms → Seq → (ℕ → Step) → Step
by_number t nr step c = elim (named c.link.a c.link.s nr) [ None ↦ (error t code.J then re_establish t) c | Some n ↦ step n c ]
