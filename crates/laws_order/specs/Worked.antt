-- Worked values: two cards whose links of both services are established; each sends, a frame is damaged on its way, own busy begins and
-- ends, a timer expires, something happens at another line, and other terminals of the line are heard. Each computes.
use Rattle.std.specs.Prelude.{◌≡◌, List, [], ◌∷◌, ◌++◌, refl}
use Rattle.model_bits.specs.Stream.{frame, dropped}
use Rattle.model_bits.specs.declared.heard.Cause.TheVariants.{Fcs}
use Rattle.lapd_frame.specs.declared.addresses.Side.TheVariants.{User}
use Rattle.lapd_frame.specs.declared.services.Service.TheVariants.{Call, Packet}
use Rattle.lapd_frame.specs.declared.timers.Timer.TheVariants.{T200, T203}
use Rattle.lapd_frame.specs.Reading.{reading, header_of, control_of, unnumbered_of, supervisory_of}
use Rattle.lapd_frame.specs.Senders.{exchanged, reading as read_by}
use Rattle.lapd_seq.specs.Circle.{distance_of, named}
use Rattle.lapd_seq.specs.Numbers.{seq}
use Rattle.model_teis.specs.network.Events as teis
use Rattle.model_line.specs.declared.config.Config.{Config}
use Rattle.model_line.specs.Event.{hears, request, next}
use Rattle.model_line.specs.Machine as lines
use Rattle.model_line.specs.Request.{Data, Establish, Assign, SetBusy, ClearBusy}
use Rattle.model_line.specs.Usual.{usual}
use Rattle.model_card.specs.Card.{fresh}
use Rattle.model_card.specs.Event.{Event, at}
use Rattle.model_card.specs.Run.{moments, after_all}
use Rattle.laws_wire.specs.Call.{calling}
use Rattle.laws_wire.specs.Wire.{Wire, requests, expires, sends, receives, loses, StepAt, at_near, at_far, doing_all}
use Rattle.laws_wire.specs.Worked.{establishes}
use Rattle.laws_order.specs.AnySteps.{step, disturbed, elsewhere, AnyStepAt, any_near, any_far, any_doing_all, seen_near, seen_far}
use Rattle.laws_order.specs.Order.{data_noted, StaysEstablished, Known, known_by, kept_by}

abbrev pub network : Config
network = record usual { lines = 2; terminals = 1; k16 = 3; slots = 16 }

abbrev pub user : Config
user = record network { side = User }

abbrev pub calls_both : List StepAt
calls_both = establishes ++ at_near (requests (Establish Packet 0)) ∷ establishes

abbrev pub faces : Wire
faces = doing_all calls_both (calling Call 0 user 0 network 0)

-- The first I-frame of call control is damaged, and goes again after REJ; that of packet mode comes between.
abbrev pub both_send : List AnyStepAt
both_send =
    any_near (step (requests (Data Call 0 (1 ∷ [])))) ∷ any_near (step (requests (Data Packet 0 (2 ∷ [])))) ∷ any_near (step (requests (Data Call 0 (3 ∷ []))))
    ∷ any_near (step sends) ∷ any_near (step loses) ∷ any_far (disturbed (dropped Fcs)) ∷ any_far (elsewhere (at 1 (request (Assign 5))))
    ∷ any_near (step sends) ∷ any_far (step receives) ∷ any_near (step sends) ∷ any_far (step receives)
    ∷ any_far (step (requests (Data Call 0 (4 ∷ [])))) ∷ any_far (step sends) ∷ any_far (step sends) ∷ any_far (step sends)
    ∷ any_near (step receives) ∷ any_near (step receives) ∷ any_near (step receives)
    ∷ any_near (step sends) ∷ any_near (step sends) ∷ any_near (step sends) ∷ any_far (step receives) ∷ any_far (step receives) ∷ any_far (step receives)
    ∷ []

-- Then the far end is busy, and what comes is dropped. It is ready again, and says so, and nothing goes: what was dropped goes
-- again once T200 expires.
abbrev pub is_busy : List AnyStepAt
is_busy =
    any_far (step (requests (SetBusy Call 0))) ∷ any_near (step (requests (Data Call 0 (5 ∷ []))))
    ∷ any_near (step sends) ∷ any_far (step receives) ∷ any_far (step sends) ∷ any_near (step receives)
    ∷ any_far (step (requests (ClearBusy Call 0))) ∷ any_far (step sends) ∷ any_near (step receives) ∷ any_near (step sends) ∷ any_far (step receives)
    ∷ []

abbrev pub goes_again : List AnyStepAt
goes_again =
    any_near (step (expires (T200 Call 0))) ∷ any_near (step sends) ∷ any_far (step receives) ∷ any_far (step sends) ∷ any_near (step receives)
    ∷ any_near (step sends) ∷ any_far (step receives) ∷ []

-- The far end hears frames of other terminals on the line: an I-frame of TEI 5, and SABME of TEI 6; and unit data of its own.
abbrev pub others_speak : List AnyStepAt
others_speak =
    any_far (disturbed (frame (0x00 ∷ 0x0B ∷ 0x00 ∷ 0x00 ∷ 9 ∷ []))) ∷ any_far (disturbed (frame (0x00 ∷ 0x0D ∷ 0x7F ∷ [])))
    ∷ any_far (disturbed (frame (0x00 ∷ 0x01 ∷ 0x03 ∷ 8 ∷ []))) ∷ []

abbrev pub busy_run : List AnyStepAt
busy_run = others_speak ++ both_send ++ is_busy ++ goes_again

both_far : data_noted Call 0 (seen_far both_send faces) ≡ (1 ∷ []) ∷ (3 ∷ []) ∷ []
unfolding lines.after lines.answer lines.takes_slot exchanged read_by reading header_of control_of unnumbered_of supervisory_of teis.course teis.refusal seq distance_of named doing_all any_doing_all seen_near seen_far
both_far = refl

packet_far : data_noted Packet 0 (seen_far both_send faces) ≡ (2 ∷ []) ∷ []
unfolding lines.after lines.answer lines.takes_slot exchanged read_by reading header_of control_of unnumbered_of supervisory_of teis.course teis.refusal seq distance_of named doing_all any_doing_all seen_near seen_far
packet_far = refl

both_near : data_noted Call 0 (seen_near both_send faces) ≡ (4 ∷ []) ∷ []
unfolding lines.after lines.answer lines.takes_slot exchanged read_by reading header_of control_of unnumbered_of supervisory_of teis.course teis.refusal seq distance_of named doing_all any_doing_all seen_near seen_far
both_near = refl

is_dropped : data_noted Call 0 (seen_far (both_send ++ is_busy) faces) ≡ (1 ∷ []) ∷ (3 ∷ []) ∷ []
unfolding lines.after lines.answer lines.takes_slot exchanged read_by reading header_of control_of unnumbered_of supervisory_of teis.course teis.refusal seq distance_of named doing_all any_doing_all seen_near seen_far
is_dropped = refl

goes_again_far : data_noted Call 0 (seen_far busy_run faces) ≡ (1 ∷ []) ∷ (3 ∷ []) ∷ (5 ∷ []) ∷ []
unfolding lines.after lines.answer lines.takes_slot exchanged read_by reading header_of control_of unnumbered_of supervisory_of teis.course teis.refusal seq distance_of named doing_all any_doing_all seen_near seen_far
goes_again_far = refl

-- The establishments last.
pub call_near : StaysEstablished Call 0 (seen_near busy_run faces)
unfolding lines.after lines.answer lines.takes_slot exchanged read_by reading header_of control_of unnumbered_of supervisory_of teis.course teis.refusal seq distance_of named doing_all any_doing_all seen_near seen_far
call_near = refl

pub call_far : StaysEstablished Call 0 (seen_far busy_run faces)
unfolding lines.after lines.answer lines.takes_slot exchanged read_by reading header_of control_of unnumbered_of supervisory_of teis.course teis.refusal seq distance_of named doing_all any_doing_all seen_near seen_far
call_far = refl

-- What happened at the lines of the two ends up to where both links are established; and so what is known of an end there.
abbrev pub near_begins : List Event
near_begins =
    at 0 (request (Assign 0)) ∷ at 0 (request (Establish Call 0)) ∷ at 0 next ∷ at 0 (hears (frame (0x00 ∷ 0x01 ∷ 0x73 ∷ [])))
    ∷ at 0 (request (Establish Packet 0)) ∷ at 0 next ∷ at 0 (hears (frame (0x40 ∷ 0x01 ∷ 0x73 ∷ []))) ∷ []

abbrev pub far_begins : List Event
far_begins =
    at 0 (request (Assign 0)) ∷ at 0 (hears (frame (0x00 ∷ 0x01 ∷ 0x7F ∷ []))) ∷ at 0 next ∷ at 0 (hears (frame (0x40 ∷ 0x01 ∷ 0x7F ∷ []))) ∷ at 0 next ∷ []

near_is : faces.near.card ≡ after_all (fresh user) near_begins
unfolding lines.after lines.answer lines.takes_slot exchanged read_by reading header_of control_of unnumbered_of supervisory_of teis.course teis.refusal seq distance_of named doing_all any_doing_all moments after_all
near_is = refl

far_is : faces.far.card ≡ after_all (fresh network) far_begins
unfolding lines.after lines.answer lines.takes_slot exchanged read_by reading header_of control_of unnumbered_of supervisory_of teis.course teis.refusal seq distance_of named doing_all any_doing_all moments after_all
far_is = refl

abbrev pub near_known : List Event → Known
near_known events = known_by user Call 0 0 (near_begins ++ events)

abbrev pub far_known : List Event → Known
far_known events = known_by network Call 0 0 (far_begins ++ events)

-- In the midst of data the far end was told of what it has not acknowledged yet, which is not told again, though the near end keeps it;
-- and its own I-frame is on its way, from before.
abbrev pub sends_one : List AnyStepAt
sends_one =
    any_near (step (requests (Data Call 0 (1 ∷ [])))) ∷ any_far (step (requests (Data Call 0 (2 ∷ [])))) ∷ any_near (step sends) ∷ any_far (step sends)
    ∷ any_far (step receives) ∷ []

abbrev pub owes : Wire
owes = any_doing_all sends_one faces

abbrev pub sends_more : List AnyStepAt
sends_more = any_near (step (requests (Data Call 0 (3 ∷ [])))) ∷ any_near (step receives) ∷ any_near (step sends) ∷ any_far (step receives) ∷ []

is_kept : near_known (at 0 (request (Data Call 0 (1 ∷ []))) ∷ at 0 next ∷ []) ≡ record { told = 0; acknowledged = 0; kept = (1 ∷ []) ∷ []; waiting = [] }
unfolding lines.after lines.answer lines.takes_slot exchanged read_by reading header_of control_of unnumbered_of supervisory_of teis.course teis.refusal seq distance_of named doing_all any_doing_all moments after_all
is_kept = refl

has_told : far_known (at 0 (request (Data Call 0 (2 ∷ []))) ∷ at 0 next ∷ at 0 (hears (frame (0x00 ∷ 0x01 ∷ 0x00 ∷ 0x00 ∷ 1 ∷ []))) ∷ [])
    ≡ record { told = 1; acknowledged = 0; kept = (2 ∷ []) ∷ []; waiting = [] }
unfolding lines.after lines.answer lines.takes_slot exchanged read_by reading header_of control_of unnumbered_of supervisory_of teis.course teis.refusal seq distance_of named doing_all any_doing_all moments after_all
has_told = refl

not_missing : kept_by (record { told = 0; acknowledged = 0; kept = (1 ∷ []) ∷ []; waiting = [] }) (record { told = 1; acknowledged = 0; kept = (2 ∷ []) ∷ []; waiting = [] }) ≡ []
not_missing = refl

more_far : data_noted Call 0 (seen_far sends_more owes) ≡ (3 ∷ []) ∷ []
unfolding lines.after lines.answer lines.takes_slot exchanged read_by reading header_of control_of unnumbered_of supervisory_of teis.course teis.refusal seq distance_of named doing_all any_doing_all seen_near seen_far moments after_all
more_far = refl

pub more_far_stays : StaysEstablished Call 0 (seen_far sends_more owes)
unfolding lines.after lines.answer lines.takes_slot exchanged read_by reading header_of control_of unnumbered_of supervisory_of teis.course teis.refusal seq distance_of named doing_all any_doing_all seen_near seen_far moments after_all
more_far_stays = refl

-- V(A) is counted on: it is 1 where RR 1 has come, and nothing is kept.
is_gone : near_known (at 0 (request (Data Call 0 (1 ∷ []))) ∷ at 0 next ∷ at 0 (hears (frame (0x00 ∷ 0x01 ∷ 0x01 ∷ 0x02 ∷ []))) ∷ [])
    ≡ record { told = 0; acknowledged = 1; kept = []; waiting = [] }
unfolding lines.after lines.answer lines.takes_slot exchanged read_by reading header_of control_of unnumbered_of supervisory_of teis.course teis.refusal seq distance_of named doing_all any_doing_all moments after_all
is_gone = refl

-- Moments in step at which not all is at rest: an RNR of the far end waits.
abbrev pub busy_waits : Wire
busy_waits = any_doing_all (any_far (step (requests (SetBusy Call 0))) ∷ []) faces

abbrev pub clears : List AnyStepAt
clears =
    any_near (step (requests (Data Call 0 (1 ∷ [])))) ∷ any_far (step sends) ∷ any_near (step receives) ∷ any_far (step (requests (ClearBusy Call 0)))
    ∷ any_far (step sends) ∷ any_near (step receives) ∷ any_near (step sends) ∷ any_far (step receives) ∷ []

cleared_far : data_noted Call 0 (seen_far clears busy_waits) ≡ (1 ∷ []) ∷ []
unfolding lines.after lines.answer lines.takes_slot exchanged read_by reading header_of control_of unnumbered_of supervisory_of teis.course teis.refusal seq distance_of named doing_all any_doing_all seen_near seen_far
cleared_far = refl

pub cleared_stays : StaysEstablished Call 0 (seen_far clears busy_waits)
unfolding lines.after lines.answer lines.takes_slot exchanged read_by reading header_of control_of unnumbered_of supervisory_of teis.course teis.refusal seq distance_of named doing_all any_doing_all seen_near seen_far
cleared_stays = refl

-- One end is in state 8, and its enquiry waits.
abbrev pub asks_state : List AnyStepAt
asks_state = any_near (step (expires (T203 Call 0))) ∷ []

abbrev pub enquires : Wire
enquires = any_doing_all asks_state faces

abbrev pub recovers : List AnyStepAt
recovers =
    any_near (step (requests (Data Call 0 (1 ∷ [])))) ∷ any_near (step sends) ∷ any_far (step receives) ∷ any_far (step sends) ∷ any_near (step receives)
    ∷ any_near (step sends) ∷ any_far (step receives) ∷ []

recovered_far : data_noted Call 0 (seen_far recovers enquires) ≡ (1 ∷ []) ∷ []
unfolding lines.after lines.answer lines.takes_slot exchanged read_by reading header_of control_of unnumbered_of supervisory_of teis.course teis.refusal seq distance_of named doing_all any_doing_all seen_near seen_far moments after_all
recovered_far = refl

pub recovered_stays : StaysEstablished Call 0 (seen_far recovers enquires)
unfolding lines.after lines.answer lines.takes_slot exchanged read_by reading header_of control_of unnumbered_of supervisory_of teis.course teis.refusal seq distance_of named doing_all any_doing_all seen_near seen_far moments after_all
recovered_stays = refl

-- And the near end has just taken UA, behind which the far end has sent two I-frames already; the first of them is lost.
abbrev pub early : Wire
early =
    doing_all (at_near sends ∷ at_far receives ∷ at_far (requests (Data Call 0 (1 ∷ []))) ∷ at_far (requests (Data Call 0 (2 ∷ [])))
    ∷ at_far sends ∷ at_far sends ∷ at_far sends ∷ at_near receives ∷ []) (calling Call 0 user 0 network 0)

abbrev pub loses_first : List AnyStepAt
loses_first =
    any_far (step loses) ∷ any_near (step receives) ∷ any_near (step sends) ∷ any_far (step receives) ∷ any_far (step sends) ∷ any_far (step sends)
    ∷ any_near (step receives) ∷ any_near (step receives) ∷ []

both_kept : known_by network Call 0 0 (at 0 (request (Assign 0)) ∷ at 0 (hears (frame (0x00 ∷ 0x01 ∷ 0x7F ∷ []))) ∷ at 0 (request (Data Call 0 (1 ∷ [])))
    ∷ at 0 (request (Data Call 0 (2 ∷ []))) ∷ at 0 next ∷ at 0 next ∷ at 0 next ∷ []) ≡ record { told = 0; acknowledged = 0; kept = (1 ∷ []) ∷ (2 ∷ []) ∷ []; waiting = [] }
unfolding lines.after lines.answer lines.takes_slot exchanged read_by reading header_of control_of unnumbered_of supervisory_of teis.course teis.refusal seq distance_of named doing_all any_doing_all moments after_all
both_kept = refl

early_near : data_noted Call 0 (seen_near loses_first early) ≡ (1 ∷ []) ∷ (2 ∷ []) ∷ []
unfolding lines.after lines.answer lines.takes_slot exchanged read_by reading header_of control_of unnumbered_of supervisory_of teis.course teis.refusal seq distance_of named doing_all any_doing_all seen_near seen_far
early_near = refl

pub early_stays : StaysEstablished Call 0 (seen_near loses_first early)
unfolding lines.after lines.answer lines.takes_slot exchanged read_by reading header_of control_of unnumbered_of supervisory_of teis.course teis.refusal seq distance_of named doing_all any_doing_all seen_near seen_far
early_stays = refl
