-- Which state an event leaves a link in: from a state, by what is heard, asked or expired, to a state.
use Rattle.std.specs.Prelude.{ℕ, ◌==◌, Bool, true, false, not, ◌&&◌, ◌||◌, nat_lt, List, length, Option, None, Some, is_some, if◌then◌else◌}
use Rattle.lapd_seq.specs.declared.numbers.Seq.{Seq}
use Rattle.lapd_seq.specs.Circle.{named}
use Rattle.lapd_frame.specs.declared.controls.Control.{Control}
use Rattle.lapd_frame.specs.declared.controls.Control.TheVariants.{Information, ReceiveReady, ReceiveNotReady, Reject, Sabme, Disc, Ui, Ua, Dm, Frmr}
use Rattle.lapd_frame.specs.declared.readings.Reading.{Reading}
use Rattle.lapd_frame.specs.Readings.{by_reading}
use Rattle.model_link.specs.declared.states.State.{State}
use Rattle.model_link.specs.declared.states.State.TheVariants.{TeiAssigned, AwaitingEstablishment, AwaitingRelease, Established, TimerRecovery}
use Rattle.model_link.specs.declared.timers.LinkTimer.{LinkTimer}
use Rattle.model_link.specs.declared.timers.LinkTimer.TheVariants.{T200}
use Rattle.model_link.specs.declared.terms.Terms.{Terms}
use Rattle.model_link.specs.Link.{Link, state_number, is_multiple_frame, may_repeat}
use Rattle.model_link.specs.Events.{Received, frame, overlong, Request, Establish, Release, Event, received, expired, requested, offer, cleared}
use Rattle.model_link.specs.Told.{runs}

-- By a frame of the grammar; a response is no command. In state 4 the terminal establishes the link (Q.921 clause
-- 5.5.1.2), or by annex B asks this side for it, by DM with F=0 (clause 5.5.4). In state 5 it agrees, or refuses (clause
-- 5.5.1.2); as it agrees, a release that is owed, as the first bit says, is carried out (annex B). In state 6 either ends the
-- link (clause 5.5.3.2). In states 7 and 8 it establishes the link again, or releases it (clauses 5.5.1.2, 5.5.3.2 and 5.7), or
-- this side establishes it again after an error (clauses 5.7.1, 5.8.6 and 5.8.7); in state 8 a response with F=1 ends the
-- recovery (clause 5.6.7). No other frame moves a link.
abbrev pub by_frame : Reading → Bool → State → Bool → Control → State
by_frame reading owed TeiAssigned command (Sabme p) = Established
by_frame reading owed TeiAssigned command (Dm false) = by_reading reading TeiAssigned AwaitingEstablishment
by_frame reading owed TeiAssigned command other = TeiAssigned
by_frame reading owed AwaitingEstablishment command (Ua true) = if owed then AwaitingRelease else Established
by_frame reading owed AwaitingEstablishment command (Dm true) = TeiAssigned
by_frame reading owed AwaitingEstablishment command other = AwaitingEstablishment
by_frame reading owed AwaitingRelease command (Ua true) = TeiAssigned
by_frame reading owed AwaitingRelease command (Dm true) = TeiAssigned
by_frame reading owed AwaitingRelease command other = AwaitingRelease
by_frame reading owed Established command (Disc p) = TeiAssigned
by_frame reading owed Established command (Dm false) = AwaitingEstablishment
by_frame reading owed Established command (Frmr f) = AwaitingEstablishment
by_frame reading owed Established command other = Established
by_frame reading owed TimerRecovery command (Sabme p) = Established
by_frame reading owed TimerRecovery command (Disc p) = TeiAssigned
by_frame reading owed TimerRecovery command (Dm f) = AwaitingEstablishment
by_frame reading owed TimerRecovery command (Frmr f) = AwaitingEstablishment
by_frame reading owed TimerRecovery false (ReceiveReady nr true) = Established
by_frame reading owed TimerRecovery false (ReceiveNotReady nr true) = Established
by_frame reading owed TimerRecovery false (Reject nr true) = Established
by_frame reading owed TimerRecovery command other = TimerRecovery

-- An I-frame over N201 is heard as one that was too long to keep (clause 5.8.5), and by annex B so is UI (clause 3.6.11).
abbrev pub is_overlong : Terms → Control → List ℕ → Bool
is_overlong t (Information ns nr p) octets = nat_lt t.n201 (length octets)
is_overlong t (Ui p) octets = by_reading t.reading false (nat_lt t.n201 (length octets))
is_overlong t other octets = false

abbrev pub as_heard : Terms → Event → Event
as_heard t (received (frame f)) = received (if is_overlong t f.control f.info then overlong else frame f)
as_heard t other = other

-- In states 7 and 8 an invalid N(R), and what the grammar does not have or was too long, lead to an establishment by this
-- side, whatever else the frame says (clauses 5.8.2 and 5.8.5).
abbrev pub receipt_of : Control → Option Seq
receipt_of (Information ns nr p) = Some nr
receipt_of (ReceiveReady nr pf) = Some nr
receipt_of (ReceiveNotReady nr pf) = Some nr
receipt_of (Reject nr pf) = Some nr
receipt_of other = None

abbrev pub is_invalid : Link → Option Seq → Bool
is_invalid l None = false
is_invalid l (Some nr) = not (is_some (named l.a l.s nr))

abbrev pub is_faulty : Received → Link → Bool
is_faulty (frame f) l = is_invalid l (receipt_of f.control)
is_faulty other l = true

abbrev pub by_received : Reading → Bool → State → Received → State
by_received reading owed state (frame f) = by_frame reading owed state f.address.command f.control
by_received reading owed state other = state

-- By the expiry of a timer that runs; the bit says whether RC < N200. T200 in states 5, 6 and 8, where the command was not
-- answered, ends the link, or establishes it again, after the last repeat (clauses 5.5.1.3, 5.5.3.3 and 5.6.7); T200 and
-- T203 in state 7 lead to an enquiry (clauses 5.6.7 and 5.10.3).
abbrev pub by_expiry : State → LinkTimer → Bool → State
by_expiry TeiAssigned timer again = TeiAssigned
by_expiry AwaitingEstablishment T200 false = TeiAssigned
by_expiry AwaitingEstablishment timer again = AwaitingEstablishment
by_expiry AwaitingRelease T200 false = TeiAssigned
by_expiry AwaitingRelease timer again = AwaitingRelease
by_expiry Established timer again = TimerRecovery
by_expiry TimerRecovery T200 false = AwaitingEstablishment
by_expiry TimerRecovery timer again = TimerRecovery

-- By a request (clauses 5.5.1.1 and 5.5.3.2).
abbrev pub by_request : State → Request → State
by_request TeiAssigned Establish = AwaitingEstablishment
by_request Established Release = AwaitingRelease
by_request TimerRecovery Release = AwaitingRelease
by_request state other = state

-- By any event; where the TEI leaves the line, the link is as one that begins (clause 5.3.4).
abbrev pub state_after : Terms → Event → Link → State
state_after t (received r) l = if is_multiple_frame l.state && is_faulty r l then AwaitingEstablishment else by_received t.reading l.owed l.state r
state_after t (expired timer) l = if runs timer l.running then by_expiry l.state timer (may_repeat t l) else l.state
state_after t (requested request pool_is_full) l = by_request l.state request
state_after t offer l = l.state
state_after t cleared l = TeiAssigned

-- Whether a link moves from one state to another, and whether it comes to the state of that number.
abbrev pub moves : State → State → Bool
moves from to = not (state_number from == state_number to)

abbrev pub comes_to : ℕ → State → State → Bool
comes_to n from to = moves from to && (state_number to == n)

-- An establishment begins where the link comes to state 5, and by SABME that leads to state 7; and nothing is left where
-- the TEI leaves (clauses 5.5.1.1, 5.5.1.2, 5.7 and 5.3.4).
abbrev pub is_sabme : Control → Bool
is_sabme (Sabme p) = true
is_sabme other = false

abbrev pub leads_by_sabme : Event → State → Bool
leads_by_sabme (received (frame f)) to = is_sabme f.control && (state_number to == 7)
leads_by_sabme other to = false

abbrev pub is_clearing : Event → Bool
is_clearing cleared = true
is_clearing other = false

abbrev pub is_anew : Event → State → State → Bool
is_anew e from to = comes_to 5 from to || (leads_by_sabme e to || is_clearing e)

-- The numbers begin anew by SABME that leads to state 7, by UA with F=1 in state 5, and where the TEI leaves; by nothing else,
-- so by no UA in another state (clauses 5.5.1.2, 5.7 and 5.8.7).
abbrev pub is_agreement : Control → Bool
is_agreement (Ua f) = f
is_agreement other = false

abbrev pub leads_by_agreement : Event → State → Bool
leads_by_agreement (received (frame f)) from = is_agreement f.control && (state_number from == 5)
leads_by_agreement other from = false

abbrev pub numbers_begin : Event → State → State → Bool
numbers_begin e from to = leads_by_sabme e to || (leads_by_agreement e from || is_clearing e)
