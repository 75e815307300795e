-- Worked values: a card of the user's side has called one of the network's, and sends two contents; a bit of the first is turned on
-- its way. Each computes.
use Rattle.std.specs.Prelude.{◌≡◌, ℕ, List, [], ◌∷◌, ◌++◌, map, replicate, Ok, refl}
use Rattle.lapd_frame.specs.declared.services.Service.TheVariants.{Call}
use Rattle.lapd_frame.specs.Reading.{reading, header_of, control_of, unnumbered_of, supervisory_of}
use Rattle.lapd_frame.specs.Senders.{exchanged, reading as read_by}
use Rattle.lapd_seq.specs.Circle.{distance_of, named}
use Rattle.lapd_seq.specs.Numbers.{seq}
use Rattle.model_teis.specs.network.Events as teis
use Rattle.model_bits.specs.Bits.{low_bits}
use Rattle.model_line.specs.Machine as lines
use Rattle.model_line.specs.Request.{Data}
use Rattle.model_card.specs.Room.{room}
use Rattle.model_card.specs.ports.Card as ports
use Rattle.model_card.specs.ports.Port as port
use Rattle.model_card.specs.ports.Port.{octet, pull}
use Rattle.laws_order.specs.Order.{data_noted, data_granted, StaysEstablished}
use Rattle.laws_order.specs.circuit.Circuit.{doing_all as circuit_done}
use Rattle.laws_order.specs.circuit.Damaged.{Noisy, happens, completes, loses, StepAt, at_near, at_far, doing_all, ArePossible, seen_near, seen_far}
use Rattle.laws_order.specs.circuit.Resting.{from_then_on}
use Rattle.laws_order.specs.circuit.WorkedCall as call
use Rattle.laws_order.specs.circuit.WorkedCall.{establishes}

-- Where the call of `WorkedCall` is established, each octet was heard.
abbrev pub begins : Noisy
begins = from_then_on (circuit_done establishes call.begins)

abbrev near_asks : ℕ → StepAt
near_asks value = at_near (happens (port.request (Data Call 0 (value ∷ []))))

abbrev near_hears : ℕ → StepAt
near_hears value = at_near (happens (octet value))

abbrev far_hears : ℕ → StepAt
far_hears value = at_far (happens (octet value))

abbrev near_pulls : StepAt
near_pulls = at_near (happens pull)

abbrev far_pulls : StepAt
far_pulls = at_far (happens pull)

abbrev far_gets : ℕ → StepAt
far_gets value = at_far (completes value)

abbrev near_gets : ℕ → StepAt
near_gets value = at_near (completes value)

-- The octets of both I-frames. As they come first, a bit of the fifth is turned, and the first is lost.
abbrev both_come : List StepAt
both_come =
    map far_hears (0 ∷ 2 ∷ 0 ∷ 0 ∷ 86 ∷ 43 ∷ 144 ∷ 253 ∷ []) ++ (far_gets 0 ∷ map far_hears (2 ∷ 4 ∷ 0 ∷ 154 ∷ 59 ∷ 247 ∷ 252 ∷ []) ++ (far_gets 252 ∷ []))

abbrev one_comes : List StepAt
one_comes =
    map far_hears (0 ∷ 2 ∷ 0 ∷ 0 ∷ 70 ∷ 43 ∷ 144 ∷ 253 ∷ 0 ∷ 2 ∷ 4 ∷ 0 ∷ 154 ∷ 59 ∷ 247 ∷ 252 ∷ []) ++ (at_near loses ∷ far_gets 252 ∷ [])

-- The second is out of sequence: REJ goes, and both go again.
abbrev rejected : List StepAt
rejected = replicate 7 far_pulls ++ (map near_hears (0 ∷ 1 ∷ 9 ∷ 0 ∷ 26 ∷ 113 ∷ []) ++ (near_gets 126 ∷ []))

abbrev pub goes_again : List StepAt
goes_again = near_asks 0xAB ∷ near_asks 0xCD ∷ replicate 17 near_pulls ++ (one_comes ++ (rejected ++ (replicate 17 near_pulls ++ both_come)))

told_far : data_noted Call 0 (seen_far goes_again begins) ≡ (0xAB ∷ []) ∷ (0xCD ∷ []) ∷ []
unfolding lines.after lines.answer lines.takes_slot exchanged read_by reading header_of control_of unnumbered_of supervisory_of teis.course teis.refusal seq distance_of named low_bits ports.after ports.answer ports.meant circuit_done doing_all seen_near seen_far
told_far = refl

pub near_stays : StaysEstablished Call 0 (seen_near goes_again begins)
unfolding lines.after lines.answer lines.takes_slot exchanged read_by reading header_of control_of unnumbered_of supervisory_of teis.course teis.refusal seq distance_of named low_bits ports.after ports.answer ports.meant circuit_done doing_all seen_near seen_far
near_stays = refl

pub far_stays : StaysEstablished Call 0 (seen_far goes_again begins)
unfolding lines.after lines.answer lines.takes_slot exchanged read_by reading header_of control_of unnumbered_of supervisory_of teis.course teis.refusal seq distance_of named low_bits ports.after ports.answer ports.meant circuit_done doing_all seen_near seen_far
far_stays = refl

-- Octets in which a frame stands that was never pulled, as errors make them that the check does not show: it is told, and was never
-- granted.
abbrev pub never_pulled : List StepAt
never_pulled = map far_hears (0 ∷ 2 ∷ 0 ∷ 0 ∷ 50 ∷ 9 ∷ 181 ∷ 253 ∷ 252 ∷ [])

told_of_none : data_noted Call 0 (seen_far never_pulled begins) ≡ (0x99 ∷ []) ∷ []
unfolding lines.after lines.answer lines.takes_slot exchanged read_by reading header_of control_of unnumbered_of supervisory_of teis.course teis.refusal seq distance_of named low_bits ports.after ports.answer ports.meant circuit_done doing_all seen_near seen_far
told_of_none = refl

none_kept : room 0 Call 0 begins.near.card.card ≡ Ok (record { queue = 8; pool = 16; va = 0 })
unfolding lines.after lines.answer lines.takes_slot exchanged read_by reading header_of control_of unnumbered_of supervisory_of teis.course teis.refusal seq distance_of named low_bits ports.after ports.answer ports.meant circuit_done
none_kept = refl

never_granted : data_granted Call 0 (seen_near never_pulled begins) ≡ []
unfolding lines.after lines.answer lines.takes_slot exchanged read_by reading header_of control_of unnumbered_of supervisory_of teis.course teis.refusal seq distance_of named low_bits ports.after ports.answer ports.meant circuit_done doing_all seen_near seen_far
never_granted = refl

not_pulled : ArePossible Call 0 never_pulled begins → ⊥
unfolding lines.after lines.answer lines.takes_slot exchanged read_by reading header_of control_of unnumbered_of supervisory_of teis.course teis.refusal seq distance_of named low_bits ports.after ports.answer ports.meant circuit_done doing_all seen_near seen_far ArePossible
not_pulled h = cc h.1.1.1.1.1.1.1.1.0
