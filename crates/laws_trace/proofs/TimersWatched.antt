-- A part of what an observer knows of a link, its numbers; and by it when timers run, and when they are started.
use Rattle.laws_trace.proofs.Vocabulary.{◌≡◌, ℕ, ◌+◌, ◌%◌, ◌==◌, ◌&&◌, ◌||◌, not, Bool, true, false, List, fold, Option, Some, None, Result, Ok, Err, if◌then◌else◌, list_any, option_map_or, ReadFault, Information, ReceiveReady, ReceiveNotReady, Reject, Sabme, Service, Parts, reading, LinkTimer, Config, state_of, line_at, moments, runs_at_callers, Control, fresh, CardEvent as Event}
use Rattle.laws_trace.proofs.Vocabulary.{after, Moment}
use Rattle.laws_trace.proofs.Vocabulary.{after_all, is_for, frame_of, Seen, heard, trace_begun as begun, seen_in, TimerT200 as T200, TimerT203 as T203, own_side}
use Rattle.laws_trace.proofs.States.{is_state, state_before, state_after, differ}
use Rattle.laws_trace.specs.TimersAreTimely as timely

-- Whoever watches a link while it is in state 7 or 8 keeps in mind the N(R) that was heard of it last, to which V(A) is
-- set; the N(S) of the I-frame that goes next, V(S); and whether the terminal said last that it is busy (Q.921 clauses
-- 3.5.2.2, 3.5.2.3 and 5.6.5).
pub record Known : Type 0 where
  pub acknowledged : ℕ
  pub next : ℕ
  pub busy : Bool

abbrev pub nothing_yet : Known
nothing_yet = record { acknowledged = 0; next = 0; busy = false }

abbrev pub number_heard : ℕ → Bool → Bool → Known → Known
number_heard nr again busy k = record { acknowledged = nr; next = if again then nr else k.next; busy = busy }

-- By what is heard: with SABME all begins anew; RR, RNR and REJ say whether the terminal is busy. I-frames go again
-- from N(R) on after REJ that leaves the link in state 7, and after the frame that takes it there from state 8 (clauses
-- 5.5.1.2, 5.6.3 to 5.6.5 and 5.6.7).
abbrev pub listens : Bool → Bool → Known → Control → Known
listens recovered in_7 k (Sabme p) = nothing_yet
listens recovered in_7 k (Information ns nr p) = number_heard nr.value false k.busy k
listens recovered in_7 k (ReceiveReady nr p) = number_heard nr.value recovered false k
listens recovered in_7 k (ReceiveNotReady nr p) = number_heard nr.value recovered true k
listens recovered in_7 k (Reject nr p) = number_heard nr.value in_7 false k
listens recovered in_7 k other = k

-- An I-frame of the link that begins, by its N(S).
pub record Sent : Type 0 where
  pub ns : ℕ

abbrev pub sent_by : Control → List ℕ → Option Sent
sent_by (Information ns nr p) info = Some (record { ns = ns.value })
sent_by other info = None

abbrev pub sent_in : Service → ℕ → Result Parts ReadFault → Option Sent
sent_in service tei (Ok frame) = if is_for service tei frame.address then sent_by frame.control frame.info else None
sent_in service tei (Err fault) = None

-- And by the I-frames that begin.
abbrev pub sends : Known → Sent → Known
sends k sent = record k { next = (sent.ns + 1) % 128 }

abbrev pub control_in : Service → ℕ → Option Parts → Option Control
control_in service tei None = None
control_in service tei (Some f) = if is_for service tei f.address then Some f.control else None

abbrev pub learns : Config → Service → ℕ → Bool → Bool → Known → Seen → Known
learns c service tei recovered in_7 k (heard e) = option_map_or (listens recovered in_7 k) (control_in service tei (frame_of c e)) k
learns c service tei recovered in_7 k (begun octets) = option_map_or (sends k) (sent_in service tei (reading (own_side c) octets)) k
learns c service tei recovered in_7 k other = k

abbrev pub learned : Config → Service → ℕ → Option ℕ → Option ℕ → Known → List Seen → Known
learned c service tei before after k now =
    let in_7 = is_state 7 after in
    if in_7 || is_state 8 after then fold (learns c service tei (is_state 8 before && in_7) in_7) k now else nothing_yet

abbrev pub watch : Config → Service → ℕ → ℕ → Known → Moment → Known
watch c service tei number k m = learned c service tei (state_before service tei number m) (state_after service tei number m) k (seen_in number m)

-- An answer is awaited of a link in states 5, 6 and 8, and in state 7 where an I-frame is outstanding, which went, is not
-- acknowledged and is not to go again, or the terminal is busy (clauses 5.5.1.3, 5.5.3.3, 5.6.1, 5.6.5 and 5.6.7).
abbrev pub awaits : Known → Option ℕ → Bool
awaits k None = false
awaits k (Some state) = state == 5 || state == 6 || state == 8 || (state == 7 && (k.busy || not (k.next == k.acknowledged)))

-- At a caller's that obeys the orders T200 of a link runs where an answer is awaited, and T203 where none is, in state
-- 7 (clauses 5.9.1, 5.9.8 and 5.10.3); after every list of events.
abbrev pub TimersRun : Config → List Event → ℕ → Type 0
TimersRun c events number =
    (service : Service) (tei : ℕ) →
    let ms = moments (fresh c) events in
    let state = state_of service tei (line_at number (after_all (fresh c) events)) in
    let k = fold (watch c service tei number) nothing_yet ms in
    (runs_at_callers number (T200 service tei) false ms ≡ awaits k state)
    × (runs_at_callers number (T203 service tei) false ms ≡ (is_state 7 state && not (awaits k state)))

-- In state 7 T200 is started anew by RNR, and by RR, or I while the terminal is not busy, with an N(R) that
-- acknowledges an I-frame: it is not the N(R) heard last; and T203 by RR, REJ, I and SABME (clauses 5.5.1.2, 5.6.3.2,
-- 5.6.4, 5.6.5 and 5.9.8).
abbrev pub renews : LinkTimer → Known → Control → Bool
renews timer k control = timely.renews timer k.acknowledged k.busy control

abbrev pub brings : (Control → Bool) → Config → Service → ℕ → Seen → Bool
brings is c service tei (heard e) = option_map_or is (control_in service tei (frame_of c e)) false
brings is c service tei other = false

abbrev pub is_anew : Config → Service → ℕ → LinkTimer → Known → Option ℕ → Option ℕ → List Seen → Bool
is_anew c service tei timer k before after now = differ before after || (is_state 7 before && list_any (brings (renews timer k) c service tei) now)
