-- Which state a link moves to, by its numbers and by how often T200 expired: a part of what an observer knows.
use Rattle.laws_trace.proofs.Vocabulary.{ℕ, ◌+◌, ◌==◌, ◌&&◌, ◌||◌, not, nat_lt, Bool, true, List, fold, Option, Some, None, is_some, if◌then◌else◌, option_map_or, Information, ReceiveReady, ReceiveNotReady, Reject, Sabme, Disc, Ua, Ui, Dm, Frmr, Service, Parts, Seq, LinkTimer, Config, Deactivate, Control, T200, T203, Request, Establish, Release, Moment, is_for, frame_of, malformed, steps, is_own}
use Rattle.laws_trace.proofs.Vocabulary.{is_up, Seen, heard, granted, Event}
use Rattle.std.specs.Prelude.{min}
use Rattle.lapd_frame.specs.declared.readings.Reading.{Reading}
use Rattle.lapd_frame.specs.Readings.{by_reading}
use Rattle.model_line.specs.Line.{repeats_in}
use Rattle.laws_trace.specs.LinkFrames.{is_too_long}
use Rattle.laws_trace.proofs.TimersWatched.{Known, awaits}
use Rattle.laws_trace.proofs.States.{state_before, state_after, is_state, differ, expired_of, one_more}

abbrev pub is_invalid : Known → Seq → Bool
is_invalid k nr = nat_lt (steps k.acknowledged k.next) (steps k.acknowledged nr.value)

-- RR, RNR and REJ lead to a new establishment by an invalid N(R), and else, as a response with F=1, to the end of a
-- recovery (clauses 5.6.7 and 5.8.2).
abbrev pub by_receipt : Known → ℕ → Bool → Seq → ℕ
by_receipt k state final nr = if is_up state && is_invalid k nr then 5 else if state == 8 && final then 7 else state

-- The state that a frame leads to from this one. The first bit says that a release is owed, the second that the frame is a command,
-- the third that it is too long.
abbrev pub by_frame : Reading → Known → Bool → ℕ → Bool → Bool → Control → ℕ
-- clauses 5.5.1.2, 5.5.5 and 5.7
by_frame r k owed state command too_long (Sabme p) = if state == 4 || is_up state then 7 else state
-- clauses 5.5.3.2, 5.5.4 and 5.5.5
by_frame r k owed state command too_long (Disc p) = if is_up state then 4 else state
-- clauses 5.5.1.2, 5.5.3.2 and 5.8.7, and annex B
by_frame r k owed state command too_long (Ua f) = if f && state == 5 then (if owed then 6 else 7) else if f && state == 6 then 4 else state
-- clauses 5.5.1.2, 5.5.3.2, 5.7.1 and 5.8.7
by_frame r k owed state command too_long (Dm f) =
    if f && (state == 5 || state == 6) then 4 else if state == 8 || (state == 7 && not f) then 5
    else if not f && state == 4 then by_reading r state 5 else state
-- clause 5.8.6
by_frame r k owed state command too_long (Frmr f) = if is_up state then 5 else state
-- clauses 5.8.2 and 5.8.5
by_frame r k owed state command too_long (Information ns nr p) = if is_up state && (too_long || is_invalid k nr) then 5 else state
-- clauses 5.6.3 to 5.6.5 and 5.6.7
by_frame r k owed state command too_long (ReceiveReady nr f) = by_receipt k state (not command && f) nr
by_frame r k owed state command too_long (ReceiveNotReady nr f) = by_receipt k state (not command && f) nr
by_frame r k owed state command too_long (Reject nr f) = by_receipt k state (not command && f) nr
-- clauses 5.2.3 and 5.8.5
by_frame r k owed state command too_long (Ui p) = if is_up state && too_long then 5 else state
-- XID (profile)
by_frame r k owed state command too_long other = state

abbrev pub by_parts : Config → Service → ℕ → Known → Bool → ℕ → Option Parts → ℕ
by_parts c service tei k owed state None = state
by_parts c service tei k owed state (Some f) =
    if is_for service tei f.address then by_frame c.reading k owed state f.address.command (is_too_long c f) f.control else state

-- Layer 3 asks for the establishment of a link that is down, or for the release of one that is up (clauses 5.5.1.1 and
-- 5.5.3.2); or the link is deactivated (annex B).
abbrev pub by_request : Service → ℕ → ℕ → Request → ℕ
by_request service tei state (Establish of by) = if is_own service tei of by && state == 4 then 5 else state
by_request service tei state (Release of by) = if is_own service tei of by && is_up state then 6 else state
by_request service tei state (Deactivate of by) = if is_own service tei of by then 4 else state
by_request service tei state other = state

abbrev pub by_seen : Config → Service → ℕ → Known → Bool → ℕ → Seen → ℕ
by_seen c service tei k owed state (heard e) =
    if is_up state && is_some (malformed c service tei e) then 5 else by_parts c service tei k owed state (frame_of c e)
by_seen c service tei k owed state (granted r) = by_request service tei state r
by_seen c service tei k owed state other = state

-- In state 7 the expiry of the timer that runs leads to an enquiry, in state 8 (clauses 5.6.7 and 5.10.3). In states 5,
-- 6 and 8 T200 leads to another state if SABME, DISC or the enquiry may not go again (clauses 5.5.1.3, 5.5.3.3, 5.6.7
-- and 5.9.2).
abbrev pub by_expiry : Bool → Known → ℕ → LinkTimer → ℕ
by_expiry again k state T200 =
    if state == 7 then (if awaits k (Some 7) then 8 else 7) else if again then state else if state == 8 then 5 else 4
by_expiry again k state T203 = if state == 7 && not (awaits k (Some 7)) then 8 else state

-- As it leads from state 7 T200 is counted by annex B, unless N200 is 0 (clause 5.6.7).
abbrev pub first_of : Reading → ℕ → Bool → Option LinkTimer → ℕ
first_of r n200 true (Some T200) = by_reading r 0 (min 1 n200)
first_of r n200 up timer = 0

abbrev pub first : Config → Option ℕ → Option LinkTimer → ℕ
first c from timer = first_of c.reading (repeats_in c 8) (is_state 7 from) timer

abbrev pub repeated : Service → ℕ → ℕ → ℕ → Moment → ℕ
repeated service tei number n m =
    if not (m.event.line == number) then n
    else if differ (state_before service tei number m) (state_after service tei number m) then first m.card.config (state_before service tei number m) (expired_of service tei m.event.what)
    else n + option_map_or one_more (expired_of service tei m.event.what) 0

-- The state that an event leads to, with what is seen of it.
abbrev pub led : Config → Service → ℕ → Known → Bool → ℕ → Event → List Seen → ℕ → ℕ
led c service tei k owed n what now state =
    fold (by_seen c service tei k owed) (option_map_or (by_expiry (nat_lt n (repeats_in c state)) k state) (expired_of service tei what) state) now
