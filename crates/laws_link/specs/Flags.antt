-- What an event leaves of a link's flags, and of RC, by the state that it leads to.
use Rattle.std.specs.Prelude.{ℕ, ◌+◌, ◌==◌, Bool, true, false, not, ◌&&◌, ◌||◌, min, List, [], ◌∷◌, Option, None, Some, unwrap_or, if◌then◌else◌}
use Rattle.std.specs.Option.{option_map_or}
use Rattle.lapd_frame.specs.declared.controls.Control.{Control}
use Rattle.lapd_frame.specs.declared.controls.Control.TheVariants.{Information, ReceiveReady, ReceiveNotReady, Reject}
use Rattle.lapd_frame.specs.Readings.{by_reading}
use Rattle.model_link.specs.declared.states.State.{State}
use Rattle.model_link.specs.declared.states.State.TheVariants.{TeiAssigned, AwaitingEstablishment, AwaitingRelease, Established, TimerRecovery}
use Rattle.model_link.specs.declared.frames.ControlFrame.{ControlFrame}
use Rattle.model_link.specs.declared.terms.Terms.{Terms}
use Rattle.model_link.specs.Link.{Link, is_multiple_frame, most_repeats, state_number}
use Rattle.model_link.specs.Events.{frame, Establish, Release, SetBusy, ClearBusy, Event, received, requested, offer}
use Rattle.laws_link.specs.States.{moves, comes_to, is_clearing, is_anew}
use Rattle.laws_link.specs.Waiting.{has_next_number, is_taken, is_time, put}

-- A flag goes off where an establishment begins anew; in states 7 and 8 an event may set it; else it stays (Q.921 clause
-- 5.7, and the profile).
abbrev pub flag_left : Event → Link → State → Bool → Bool → Bool
flag_left e l to by_event flag = if is_anew e l.state to then false else if is_multiple_frame l.state then by_event else flag

-- The terminal is taken for busy by RNR, and for free by RR and REJ, whatever their N(R); no other frame says it (clauses
-- 5.6.4 and 5.6.5).
abbrev pub busy_by : Control → Bool → Bool
busy_by (ReceiveReady nr pf) busy = false
busy_by (ReceiveNotReady nr pf) busy = true
busy_by (Reject nr pf) busy = false
busy_by other busy = busy

abbrev pub busy_heard : Event → Bool → Bool
busy_heard (received (frame f)) busy = busy_by f.control busy
busy_heard other busy = busy

abbrev pub peer_busy_left : Event → Link → State → Bool
peer_busy_left e l to = flag_left e l to (busy_heard e l.peer_busy) l.peer_busy

-- Own busy is what layer 3 asked for last (clause 5.6.6).
abbrev pub busy_asked : Event → Bool → Bool
busy_asked (requested SetBusy pool_is_full) busy = true
busy_asked (requested ClearBusy pool_is_full) busy = false
busy_asked other busy = busy

abbrev pub own_busy_left : Event → Link → State → Bool
own_busy_left e l to = flag_left e l to (busy_asked e l.own_busy) l.own_busy

-- What REJ asked for is awaited from an I-frame out of sequence to the next one in sequence. With own busy on I-frames are
-- dropped, and say nothing of it (clauses 5.6.6 and 5.8.1).
abbrev pub rejecting_by : Control → Link → Bool
rejecting_by (Information ns nr p) l = if l.own_busy then l.rejecting else not (has_next_number ns l)
rejecting_by other l = l.rejecting

abbrev pub rejecting_heard : Event → Link → Bool
rejecting_heard (received (frame f)) l = rejecting_by f.control l
rejecting_heard other l = l.rejecting

abbrev pub rejecting_left : Event → Link → State → Bool
rejecting_left e l to = flag_left e l to (rejecting_heard e l) l.rejecting

-- An acknowledgement is owed for an I-frame that is taken, until a frame is put (in states 7 and 8 it has N(R), and may
-- have found no room and be told as lost), or goes, or the link leaves these states (clauses 5.5.3.2, 5.6.2 and 5.6.3.1).
abbrev pub takes_contents_by : Control → Link → Bool
takes_contents_by (Information ns nr p) l = is_taken (has_next_number ns l) l
takes_contents_by other l = false

abbrev pub takes_contents : Event → Link → Bool
takes_contents (received (frame f)) l = takes_contents_by f.control l
takes_contents other l = false

abbrev pub unless_put : List ControlFrame → Bool → Bool
unless_put [] owed = owed
unless_put (f ∷ fs) owed = false

abbrev pub owed_in : State → Bool → Bool
owed_in to owed = is_multiple_frame to && owed

-- An offer gives a frame that has waited; or else an I-frame, or the acknowledgement, and then none is owed.
abbrev pub owed_behind : List ControlFrame → Bool → Bool
owed_behind [] owed = false
owed_behind (f ∷ fs) owed = owed

abbrev pub pending_left : Event → Link → State → Bool
pending_left offer l to = owed_behind l.waiting l.pending
pending_left other l to =
    if comes_to 6 l.state to then false else flag_left other l to (owed_in to (unless_put (put other l to) (takes_contents other l || l.pending))) l.pending

-- The establishment that is awaited was asked for, in state 4: by layer 3 (clause 5.5.1.1), or by annex B by DM with F=0
-- (clause 5.5.4). Or this side began it, in states 7 and 8 (clause 5.7.2).
abbrev pub asks_establishment : Event → State → Bool
asks_establishment (requested Establish pool_is_full) here = true
asks_establishment (received r) here = not (is_multiple_frame here)
asks_establishment other here = false

-- By annex B layer 3 may change in state 5 what it asks for: the establishment, or the release, which is then owed until the
-- link leaves the state. A release that is owed is not asked for again.
abbrev pub asks_in_5 : Event → Bool → Option Bool
asks_in_5 (requested Establish pool_is_full) owed = Some true
asks_in_5 (requested Release pool_is_full) owed = if owed then None else Some false
asks_in_5 other owed = None

abbrev pub decided : Terms → Event → Link → Option Bool
decided t e l = if state_number l.state == 5 then by_reading t.reading None (asks_in_5 e l.owed) else None

abbrev pub asked_left : Terms → Event → Link → State → Bool
asked_left t e l to =
    if is_clearing e then false
    else if comes_to 5 l.state to then asks_establishment e l.state
    else unwrap_or (decided t e l) l.asked

abbrev pub owed_left : Terms → Event → Link → State → Bool
owed_left t e l to =
    if is_clearing e then false
    else if (state_number l.state == 5) && moves l.state to then false
    else option_map_or not (decided t e l) l.owed

-- RC counts how often T200 has expired for the command that a state awaits the answer to (clauses 5.5.1.3, 5.5.3.3 and
-- 5.6.7). By annex B the T200 that leaves state 7 counts too, if N200 is not 0 (clause 5.6.7).
abbrev pub awaits_answer : State → Bool
awaits_answer TeiAssigned = false
awaits_answer AwaitingEstablishment = true
awaits_answer AwaitingRelease = true
awaits_answer Established = false
awaits_answer TimerRecovery = true

abbrev pub counted_first : Terms → Event → Link → State → ℕ
counted_first t e l to = if comes_to 8 l.state to && is_time e l then by_reading t.reading 0 (min 1 (most_repeats t 8)) else 0

abbrev pub repeats_left : Terms → Event → Link → State → ℕ
repeats_left t e l to =
    if is_clearing e then 0
    else if not (awaits_answer to) then l.repeats
    else if moves l.state to then counted_first t e l to
    else if is_time e l then l.repeats + 1
    else l.repeats
