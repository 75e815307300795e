-- Worked values: what an observer knows of a link, which timers run, and when they are started; and what breaks the laws.
use Rattle.std.specs.Prelude.{◌≡◌, ℕ, ◌*◌, Bool, true, false, List, [], ◌∷◌, ◌++◌, refl}
use Rattle.model_bits.specs.Stream as stream
use Rattle.lapd_frame.specs.declared.services.Service.TheVariants.{Call}
use Rattle.lapd_frame.specs.declared.timers.Order.{Order}
use Rattle.lapd_frame.specs.declared.timers.Order.TheVariants.{Start, Stop}
use Rattle.lapd_frame.specs.declared.timers.Timer.{Timer}
use Rattle.lapd_frame.specs.declared.timers.Timer.TheVariants as timers
use Rattle.lapd_frame.specs.Reading.{reading, header_of, control_of, unnumbered_of, supervisory_of}
use Rattle.lapd_frame.specs.Senders.{exchanged, reading as read_by}
use Rattle.lapd_seq.specs.Circle.{named, distance_of}
use Rattle.lapd_seq.specs.Numbers.{seq}
use Rattle.model_teis.specs.network.Events as teis
use Rattle.model_link.specs.declared.timers.LinkTimer.{LinkTimer}
use Rattle.model_link.specs.declared.timers.LinkTimer.TheVariants.{T200, T203}
use Rattle.model_link.specs.Timed.{obeyed}
use Rattle.model_line.specs.Event as line_event
use Rattle.model_line.specs.Event.{hears, expiry, request}
use Rattle.model_line.specs.Laws.{orders_in}
use Rattle.model_line.specs.Machine as lines
use Rattle.model_line.specs.Request.{Assign, Remove, Establish, Data, Deactivate}
use Rattle.model_card.specs.Card.{fresh}
use Rattle.model_card.specs.Event.{Event, at}
use Rattle.model_card.specs.Machine.{answer}
use Rattle.model_card.specs.Run.{moments, after_all}
use Rattle.laws_line.specs.card.Timers.{runs_at_callers}
use Rattle.laws_line.specs.card.Worked.{usual, on_0, up}
use Rattle.laws_trace.specs.FramesAreDue.{may_go}
use Rattle.laws_trace.specs.Observer.{Observed, in_state, awaits, by_heard, by_t200, by_expiry, view_of}
use Rattle.laws_trace.specs.TimersAreTimely.{order_due}
use Rattle.laws_trace.specs.WorkedUnits.{calls, frame_comes}

abbrev pub link_after : List Event → Observed
link_after events = (view_of usual Call 64 0 events).link

-- The TEI comes, SABME leads from state 4 to state 7, and the TEI leaves.
is_assigned : link_after (on_0 (Assign 64) ∷ []) ≡ in_state 4
unfolding moments lines.after lines.answer lines.takes_slot teis.course teis.refusal
is_assigned = refl

comes_up : link_after up ≡ in_state 7
unfolding moments lines.after lines.answer lines.takes_slot teis.course teis.refusal seq exchanged read_by reading header_of control_of unnumbered_of supervisory_of
comes_up = refl

has_left : link_after (up ++ on_0 (Remove 64) ∷ []) ≡ in_state 1
unfolding moments lines.after lines.answer lines.takes_slot teis.course teis.refusal seq exchanged read_by reading header_of control_of unnumbered_of supervisory_of
has_left = refl

-- Where its line is down, the link is in state 4, and one of another TEI stays.
is_given_up : link_after (up ++ on_0 (Deactivate Call 64) ∷ []) ≡ in_state 4
unfolding moments lines.after lines.answer lines.takes_slot teis.course teis.refusal seq exchanged read_by reading header_of control_of unnumbered_of supervisory_of
is_given_up = refl

none_of_it : link_after (up ++ on_0 (Deactivate Call 65) ∷ []) ≡ in_state 7
unfolding moments lines.after lines.answer lines.takes_slot teis.course teis.refusal seq exchanged read_by reading header_of control_of unnumbered_of supervisory_of
none_of_it = refl

-- SABME that layer 3 asks for is repeated three times, N200; with the expiry behind these the link is down.
abbrev expires : Event
expires = at 0 (expiry (timers.T200 Call 64))

abbrev thrice : List Event
thrice = on_0 (Assign 64) ∷ on_0 (Establish Call 64) ∷ expires ∷ expires ∷ expires ∷ []

awaits_still : link_after thrice ≡ record (in_state 5) { asked = true; expiries = 3 }
unfolding moments lines.after lines.answer lines.takes_slot teis.course teis.refusal
awaits_still = refl

goes_down : link_after (thrice ++ expires ∷ []) ≡ in_state 4
unfolding moments lines.after lines.answer lines.takes_slot teis.course teis.refusal
goes_down = refl

-- Two I-frames go; RR with N(R) = 1 acknowledges the first; REJ takes the second back, and the next call sends it again.
abbrev pub two_gone : List Event
two_gone = up ++ on_0 (Data Call 64 (7 ∷ [])) ∷ on_0 (Data Call 64 (8 ∷ [])) ∷ calls 3

abbrev rr_comes : Event
rr_comes = frame_comes (0x02 ∷ 0x81 ∷ 0x01 ∷ 0x02 ∷ [])

abbrev rej_comes : Event
rej_comes = frame_comes (0x02 ∷ 0x81 ∷ 0x09 ∷ 0x02 ∷ [])

two_known : link_after two_gone ≡ record (in_state 7) { next = 2 }
unfolding moments lines.after lines.answer lines.takes_slot teis.course teis.refusal seq distance_of named exchanged read_by reading header_of control_of unnumbered_of supervisory_of
two_known = refl

one_known : link_after (two_gone ++ rr_comes ∷ []) ≡ record (in_state 7) { acknowledged = 1; next = 2 }
unfolding moments lines.after lines.answer lines.takes_slot teis.course teis.refusal seq distance_of named exchanged read_by reading header_of control_of unnumbered_of supervisory_of
one_known = refl

is_to_go : link_after (two_gone ++ rej_comes ∷ []) ≡ record (in_state 7) { acknowledged = 1; next = 1 }
unfolding moments lines.after lines.answer lines.takes_slot teis.course teis.refusal seq distance_of named exchanged read_by reading header_of control_of unnumbered_of supervisory_of
is_to_go = refl

has_gone : link_after (two_gone ++ rej_comes ∷ calls 1) ≡ record (in_state 7) { acknowledged = 1; next = 2 }
unfolding moments lines.after lines.answer lines.takes_slot teis.course teis.refusal seq distance_of named exchanged read_by reading header_of control_of unnumbered_of supervisory_of
has_gone = refl

-- T200 runs where two are outstanding, and RR that acknowledges one starts it anew.
abbrev runs_after : List Event → List Bool
runs_after events =
    runs_at_callers 0 (timers.T200 Call 64) false (moments (fresh usual) events) ∷ runs_at_callers 0 (timers.T203 Call 64) false (moments (fresh usual) events) ∷ []

t200_runs : runs_after two_gone ≡ true ∷ false ∷ []
unfolding moments lines.after lines.answer lines.takes_slot teis.course teis.refusal seq distance_of named exchanged read_by reading header_of control_of unnumbered_of supervisory_of
t200_runs = refl

started_anew : obeyed (timers.T200 Call 64) false (orders_in (answer rr_comes (after_all (fresh usual) two_gone))) ≡ true
unfolding after_all lines.after lines.answer lines.takes_slot teis.course teis.refusal seq distance_of named exchanged read_by reading header_of control_of unnumbered_of supervisory_of
started_anew = refl

-- Where T203 takes a link down, DISC leaves it up, or SABME is given up after its second repeat, the law is broken.
by_t203 : 4 ≡ (by_expiry usual Call 64 (timers.T203 Call 64) (in_state 7)).state → ⊥
by_t203 e = cc e

by_disc : 7 ≡ (by_heard usual Call 64 (stream.frame (0x00 ∷ 0x81 ∷ 0x53 ∷ [])) (in_state 7)).state → ⊥
unfolding exchanged read_by reading header_of control_of unnumbered_of supervisory_of
by_disc e = cc e

too_soon : 4 ≡ (by_t200 usual (record (in_state 5) { expiries = 2 })).state → ⊥
too_soon e = cc e

-- Where RR acknowledges a part, and T200 runs on from before, the law is broken; so it is where T203 is started anew by
-- unit data, or T200 by RR that acknowledges nothing.
abbrev two_out : Observed
two_out = record (in_state 7) { next = 2 }

abbrev rr : ℕ → line_event.Event
rr number = hears (stream.frame (0x02 ∷ 0x81 ∷ 0x01 ∷ 2 * number ∷ []))

abbrev unit_data : line_event.Event
unit_data = hears (stream.frame (0x00 ∷ 0x81 ∷ 0x03 ∷ 0xAB ∷ []))

abbrev due_of : LinkTimer → Timer → Observed → line_event.Event → List Order
due_of timer its o what = order_due usual Call 64 o o what timer its

forgotten : [] ≡ due_of T200 (timers.T200 Call 64) two_out (rr 1) → ⊥
unfolding seq exchanged read_by reading header_of control_of unnumbered_of supervisory_of
forgotten e = cc e

by_unit_data : Start (timers.T203 Call 64) ∷ [] ≡ due_of T203 (timers.T203 Call 64) (in_state 7) unit_data → ⊥
unfolding seq exchanged read_by reading header_of control_of unnumbered_of supervisory_of
by_unit_data e = cc e

by_nothing_new : Start (timers.T200 Call 64) ∷ [] ≡ due_of T200 (timers.T200 Call 64) two_out (rr 0) → ⊥
unfolding seq exchanged read_by reading header_of control_of unnumbered_of supervisory_of
by_nothing_new e = cc e

-- As layer 3 establishes a link T200 is started, and T203, which did not run, is not stopped; and as it is deactivated T200 is.
establishing : order_due usual Call 64 (in_state 4) (in_state 5) (request (Establish Call 64)) T200 (timers.T200 Call 64) ≡ Start (timers.T200 Call 64) ∷ []
establishing = refl

in_vain : Stop (timers.T203 Call 64) ∷ [] ≡ order_due usual Call 64 (in_state 4) (in_state 5) (request (Establish Call 64)) T203 (timers.T203 Call 64) → ⊥
in_vain e = cc e

deactivated : order_due usual Call 64 (in_state 5) (in_state 4) (request (Deactivate Call 64)) T200 (timers.T200 Call 64) ≡ Stop (timers.T200 Call 64) ∷ []
deactivated = refl

-- Where no answer ordered T200, though two I-frames are not acknowledged, that the timers run is broken.
never_started : runs_at_callers 0 (timers.T200 Call 64) false [] ≡ awaits two_out → ⊥
never_started e = cc e

-- I-frames may go while two are outstanding.
goes_on : may_go usual Call two_out ≡ true
goes_on = refl
