-- Worked values: a card of frames of the user's side faces a card of octets of the network's, and sends two contents; a bit of the first
-- is turned on its way. Each computes.
use Rattle.std.specs.Prelude.{◌≡◌, ℕ, List, [], ◌∷◌, ◌++◌, map, replicate, refl}
use Rattle.lapd_frame.specs.declared.services.Service.TheVariants.{Call}
use Rattle.lapd_frame.specs.Reading.{reading, header_of, control_of, unnumbered_of, supervisory_of}
use Rattle.lapd_frame.specs.Senders.{exchanged, reading as read_by}
use Rattle.lapd_seq.specs.Circle.{distance_of, named}
use Rattle.lapd_seq.specs.Numbers.{seq}
use Rattle.model_teis.specs.network.Events as teis
use Rattle.model_bits.specs.Bits.{low_bits}
use Rattle.model_line.specs.Machine as lines
use Rattle.model_line.specs.Event as line
use Rattle.model_line.specs.Request.{Data, Establish}
use Rattle.model_card.specs.ports.Card as ports
use Rattle.model_card.specs.ports.Port.{octet, pull}
use Rattle.laws_wire.specs.Call as wire_call
use Rattle.laws_wire.specs.Wire as wire
use Rattle.laws_wire.specs.Wire.{Step, requests, sends, receives, loses}
use Rattle.laws_wire.specs.Worked.{user, network}
use Rattle.laws_order.specs.AnySteps.{step}
use Rattle.laws_order.specs.Order.{data_noted, StaysEstablished}
use Rattle.laws_order.specs.circuit.Circuit.{doing_all}
use Rattle.laws_order.specs.circuit.Damaged.{happens, completes, as_frame_endpoint}
use Rattle.laws_order.specs.circuit.Mixed.{Mixed, StepAt, by_frames, by_octets, seen_near, seen_far}
use Rattle.laws_order.specs.circuit.MixedCall as call
use Rattle.laws_order.specs.circuit.Through.{assigned}
use Rattle.laws_order.specs.circuit.WorkedDamaged as damaged

abbrev pub begins : Mixed
begins = record { near = as_frame_endpoint damaged.begins.near; far = damaged.begins.far }

abbrev near : Step → StepAt
near act = by_frames (step act)

abbrev far_hears : ℕ → StepAt
far_hears value = by_octets (happens (octet value))

abbrev far_gets : ℕ → StepAt
far_gets value = by_octets (completes value)

-- The second comes out of sequence: REJ goes, and both go again.
abbrev pub goes_again : List StepAt
goes_again =
    near (requests (Data Call 0 (0xAB ∷ []))) ∷ near (requests (Data Call 0 (0xCD ∷ []))) ∷ near sends ∷ near sends
    ∷ map far_hears (0 ∷ 2 ∷ 0 ∷ 0 ∷ 70 ∷ 43 ∷ 144 ∷ 253 ∷ 0 ∷ 2 ∷ 4 ∷ 0 ∷ 154 ∷ 59 ∷ 247 ∷ 252 ∷ []) ++ (near loses ∷ far_gets 252
    ∷ replicate 7 (by_octets (happens pull)) ++ (near receives ∷ near sends ∷ near sends
    ∷ map far_hears (0 ∷ 2 ∷ 0 ∷ 0 ∷ 86 ∷ 43 ∷ 144 ∷ 253 ∷ []) ++ (far_gets 0 ∷ map far_hears (2 ∷ 4 ∷ 0 ∷ 154 ∷ 59 ∷ 247 ∷ 252 ∷ []) ++ (far_gets 252 ∷ []))))

told_far : data_noted Call 0 (seen_far goes_again begins) ≡ (0xAB ∷ []) ∷ (0xCD ∷ []) ∷ []
unfolding lines.after lines.answer lines.takes_slot exchanged read_by reading header_of control_of unnumbered_of supervisory_of teis.course teis.refusal seq distance_of named low_bits ports.after ports.answer ports.meant doing_all seen_near seen_far
told_far = refl

pub far_stays : StaysEstablished Call 0 (seen_far goes_again begins)
unfolding lines.after lines.answer lines.takes_slot exchanged read_by reading header_of control_of unnumbered_of supervisory_of teis.course teis.refusal seq distance_of named low_bits ports.after ports.answer ports.meant doing_all seen_near seen_far
far_stays = refl

-- A call: the card of frames asks for it, SABME comes octet by octet, and data goes back behind UA.
abbrev pub call_begins : call.Pair
call_begins = record { near = wire.happens (line.request (Establish Call 0)) (wire_call.assigned user 0 0); far = assigned network 0 0; back = [] }

abbrev pub talks : List call.StepAt
talks =
    call.by_frames sends ∷ map call.receives (126 ∷ 0 ∷ 1 ∷ 223 ∷ 200 ∷ 168 ∷ 252 ∷ 252 ∷ []) ++ (call.requests (Data Call 0 (7 ∷ []))
    ∷ replicate 16 call.sends ++ (call.by_frames receives ∷ call.by_frames receives ∷ []))

told_far_first : (call.doing_all talks call_begins).far.told ≡ wire_call.indicated Call 0 ∷ []
unfolding lines.after lines.answer lines.takes_slot exchanged read_by reading header_of control_of unnumbered_of supervisory_of teis.course teis.refusal seq distance_of named low_bits ports.after ports.answer ports.meant call.doing_all
told_far_first = refl

told_near : (call.doing_all talks call_begins).near.told ≡ wire_call.confirmed Call 0 ∷ wire_call.data_told Call 0 (7 ∷ []) ∷ []
unfolding lines.after lines.answer lines.takes_slot exchanged read_by reading header_of control_of unnumbered_of supervisory_of teis.course teis.refusal seq distance_of named low_bits ports.after ports.answer ports.meant call.doing_all
told_near = refl

pub are_talk : call.AreTalk Call 0 talks call_begins
unfolding lines.after lines.answer lines.takes_slot exchanged read_by reading header_of control_of unnumbered_of supervisory_of teis.course teis.refusal seq distance_of named low_bits ports.after ports.answer ports.meant call.doing_all call.AreTalk
are_talk = (tt, (tt, (tt, (tt, (tt, (tt, (tt, (tt, (([], refl), ((refl, refl), (tt, (tt, (tt, (tt, (tt, (tt, (tt, (tt, (tt, (tt, (tt, (tt, (tt, (tt, (tt, (tt, (tt, (tt, tt))))))))))))))))))))))))))))
