-- Which control frames an event puts behind those that wait.
use Rattle.std.specs.Prelude.{ℕ, ◌+◌, ◌-◌, ◌==◌, Bool, true, false, not, ◌&&◌, ◌||◌, List, [], ◌∷◌, ◌++◌, length, take, drop, if◌then◌else◌}
use Rattle.lapd_seq.specs.declared.numbers.Seq.{Seq}
use Rattle.lapd_seq.specs.Numbers.{seq}
use Rattle.lapd_frame.specs.declared.controls.Control.{Control}
use Rattle.lapd_frame.specs.declared.controls.Control.TheVariants.{Information, ReceiveReady, ReceiveNotReady, Reject, Sabme, Disc, Ua, Dm}
use Rattle.model_link.specs.declared.states.State.{State}
use Rattle.model_link.specs.declared.states.State.TheVariants.{TeiAssigned, AwaitingEstablishment, AwaitingRelease, Established, TimerRecovery}
use Rattle.model_link.specs.declared.timers.LinkTimer.TheVariants.{T200}
use Rattle.model_link.specs.declared.frames.ControlFrame.{ControlFrame}
use Rattle.model_link.specs.declared.terms.Terms.{Terms}
use Rattle.model_link.specs.Link.{Link, is_multiple_frame}
use Rattle.model_link.specs.Events.{frame, SetBusy, ClearBusy, Event, received, expired, requested, offer, cleared}
use Rattle.model_link.specs.Told.{runs}
use Rattle.laws_link.specs.States.{moves}

-- RNR where own busy is on, else RR (Q.921 clauses 3.6.6, 3.6.8 and 5.6.6).
abbrev pub receipt_as : Bool → ℕ → Bool → Control
receipt_as own_busy r pf = if own_busy then ReceiveNotReady (seq r) pf else ReceiveReady (seq r) pf

abbrev pub as_response : Control → List ControlFrame
as_response control = record { command = false; control = control } ∷ []

abbrev pub as_command : Control → List ControlFrame
as_command control = record { command = true; control = control } ∷ []

-- In states 7 and 8 an I-frame is taken where own busy is off and it is the next one; where own busy is off and it is
-- another, it is out of sequence (clauses 5.6.2, 5.6.6 and 5.8.1). Which is the next is said anew here, in place of the
-- machine's word, so that the law stays as it is where the machine changes; so are other words of these laws.
abbrev pub has_next_number : Seq → Link → Bool
has_next_number ns l = ns.value == (seq l.r).value

abbrev pub is_taken : Bool → Link → Bool
is_taken next l = not l.own_busy && next

-- The first one out of sequence is answered by REJ with F = P; else P=1 is answered by RNR or RR with F=1, which counts an
-- I-frame that is taken (clauses 5.6.2, 5.6.6 and 5.8.1).
abbrev pub to_information : Bool → Bool → Link → List ControlFrame
to_information next p l =
    if not l.own_busy && (not next && not l.rejecting) then as_response (Reject (seq l.r) p)
    else if p then as_response (receipt_as l.own_busy (if is_taken next l then l.r + 1 else l.r) true)
    else []

-- A supervisory command with P=1 is answered by RNR or RR with F=1 (clauses 5.6.3 to 5.6.5).
abbrev pub to_supervisory : Bool → Bool → Link → List ControlFrame
to_supervisory command p l = if command && p then as_response (receipt_as l.own_busy l.r true) else []

-- SABME and DISC are answered by UA, but SABME by DM in state 6, and DISC by DM in states 4 and 5 (clauses 5.5.1.2,
-- 5.5.3.2, 5.5.4 and 5.5.5).
abbrev pub to_sabme : State → Bool → Control
to_sabme AwaitingRelease p = Dm p
to_sabme other p = Ua p

abbrev pub to_disc : State → Bool → Control
to_disc TeiAssigned p = Dm p
to_disc AwaitingEstablishment p = Dm p
to_disc other p = Ua p

-- No other frame is answered.
abbrev pub answers_up : Bool → Control → Link → List ControlFrame
answers_up command (Information ns nr p) l = to_information (has_next_number ns l) p l
answers_up command (ReceiveReady nr p) l = to_supervisory command p l
answers_up command (ReceiveNotReady nr p) l = to_supervisory command p l
answers_up command (Reject nr p) l = to_supervisory command p l
answers_up command other l = []

abbrev pub answers_to : Bool → Control → Link → List ControlFrame
answers_to command (Sabme p) l = as_response (to_sabme l.state p)
answers_to command (Disc p) l = as_response (to_disc l.state p)
answers_to command other l = if is_multiple_frame l.state then answers_up command other l else []

-- Where own busy begins, RNR says so, and RR where it ends, with F=0 (clause 5.6.6).
abbrev pub answers : Event → Link → List ControlFrame
answers (received (frame f)) l = answers_to f.address.command f.control l
answers (requested SetBusy pool_is_full) l =
    if is_multiple_frame l.state && not l.own_busy then as_response (receipt_as true l.r false) else []
answers (requested ClearBusy pool_is_full) l =
    if is_multiple_frame l.state && l.own_busy then as_response (receipt_as false l.r false) else []
answers other l = []

-- The command whose answer a state awaits: SABME in state 5, DISC in state 6, and in state 8 RR or RNR, each with P=1
-- (clauses 5.5.1.1, 5.5.3.2 and 5.6.7). It is put where the link comes to the state, and again by each expiry of T200 that
-- leaves it there (clauses 5.5.1.3, 5.5.3.3 and 5.6.7).
abbrev pub command_in : State → Link → List ControlFrame
command_in TeiAssigned l = []
command_in AwaitingEstablishment l = as_command (Sabme true)
command_in AwaitingRelease l = as_command (Disc true)
command_in Established l = []
command_in TimerRecovery l = as_command (receipt_as l.own_busy l.r true)

abbrev pub is_time : Event → Link → Bool
is_time (expired T200) l = runs T200 l.running
is_time other l = false

abbrev pub commands : Event → Link → State → List ControlFrame
commands e l to = if moves l.state to || is_time e l then command_in to l else []

-- An answer goes before a command.
abbrev pub put : Event → Link → State → List ControlFrame
put e l to = answers e l ++ commands e l to

-- What waits stays, and what is put comes behind it, as far as there is room; an offer gives what has waited longest; and
-- nothing waits where the TEI leaves the line (clause 5.3.4, and the profile).
abbrev pub room : Terms → Link → ℕ
room t l = t.control - length l.waiting

abbrev pub behind : Terms → Link → List ControlFrame → List ControlFrame
behind t l frames = l.waiting ++ take (room t l) frames

abbrev pub waiting_left : Terms → Event → Link → State → List ControlFrame
waiting_left t offer l to = drop 1 l.waiting
waiting_left t cleared l to = []
waiting_left t other l to = behind t l (put other l to)

-- What found no room is told as lost (profile).
abbrev pub lost_by : Terms → Event → Link → State → ℕ
lost_by t e l to = length (drop (room t l) (put e l to))
