-- Worked values: a card of the user's side calls one of the network's, octet by octet, at rates that drift. Each computes.
use Rattle.std.specs.Prelude.{◌≡◌, List, [], ◌∷◌, ◌++◌, replicate, None, refl}
use Rattle.lapd_frame.specs.declared.services.Service.TheVariants.{Call}
use Rattle.lapd_frame.specs.Reading.{reading, header_of, control_of, unnumbered_of, supervisory_of}
use Rattle.lapd_frame.specs.Senders.{exchanged, reading as read_by}
use Rattle.lapd_seq.specs.Circle.{distance_of, named}
use Rattle.lapd_seq.specs.Numbers.{seq}
use Rattle.model_teis.specs.network.Events as teis
use Rattle.model_bits.specs.Bits.{low_bits}
use Rattle.model_line.specs.Event.{next, gave}
use Rattle.model_line.specs.Machine as lines
use Rattle.model_line.specs.Request.{Data}
use Rattle.model_card.specs.Event as frames
use Rattle.model_card.specs.Machine as machine
use Rattle.model_card.specs.ports.Card as ports
use Rattle.laws_wire.specs.Call.{confirmed, indicated, data_told}
use Rattle.laws_wire.specs.Worked.{user, network}
use Rattle.laws_order.specs.circuit.Beats.{beats}
use Rattle.laws_order.specs.circuit.Circuit.{Circuit, requests, sends, receives, StepAt, at_near, at_far, doing_all}
use Rattle.laws_order.specs.circuit.Through.{calling}

abbrev pub begins : Circuit
begins = calling Call 0 user 0 network 0

-- The user's end is pulled ahead, and the network's lags: SABME is heard in full where only flags came from there.
abbrev pub establishes : List StepAt
establishes =
    replicate 5 (at_near sends) ++ (at_far receives ∷ at_far sends ∷ replicate 4 (at_near sends) ++ (at_far receives ∷ at_far receives ∷ at_far sends ∷ at_near receives ∷ replicate 6 (at_far receives)
    ++ (replicate 9 (at_far sends) ++ replicate 10 (at_near receives))))

established_near : (doing_all establishes begins).near.told ≡ confirmed Call 0 ∷ []
unfolding lines.after lines.answer lines.takes_slot exchanged read_by reading header_of control_of unnumbered_of supervisory_of teis.course teis.refusal seq distance_of named low_bits ports.after ports.answer ports.meant doing_all
established_near = refl

established_far : (doing_all establishes begins).far.told ≡ indicated Call 0 ∷ []
unfolding lines.after lines.answer lines.takes_slot exchanged read_by reading header_of control_of unnumbered_of supervisory_of teis.course teis.refusal seq distance_of named low_bits ports.after ports.answer ports.meant doing_all
established_far = refl

-- Then the user's end sends, and flags of the network's come between; the acknowledgement goes by itself.
abbrev pub goes_on : List StepAt
goes_on =
    replicate 7 (at_near sends) ++ (replicate 4 (at_far receives) ++ (at_far sends ∷ replicate 4 (at_near sends) ++ (replicate 7 (at_far receives)
    ++ (at_near receives ∷ replicate 11 (at_far sends) ++ replicate 11 (at_near receives)))))

abbrev pub sends_octets : List StepAt
sends_octets = establishes ++ (at_near (requests (Data Call 0 (0xAB ∷ []))) ∷ goes_on)

sent : (doing_all sends_octets begins).far.told ≡ indicated Call 0 ∷ data_told Call 0 (0xAB ∷ []) ∷ []
unfolding lines.after lines.answer lines.takes_slot exchanged read_by reading header_of control_of unnumbered_of supervisory_of teis.course teis.refusal seq distance_of named low_bits ports.after ports.answer ports.meant doing_all
sent = refl

-- Where layer 3 asks for numbers that are no octets, others are told: eight bits of each go. So octets alone are asked to be sent.
abbrev sends_300 : List StepAt
sends_300 = establishes ++ (at_near (requests (Data Call 0 (300 ∷ []))) ∷ replicate 11 (at_near sends) ++ replicate 11 (at_far receives))

no_octet : (doing_all sends_300 begins).far.told ≡ indicated Call 0 ∷ data_told Call 0 (44 ∷ []) ∷ []
unfolding lines.after lines.answer lines.takes_slot exchanged read_by reading header_of control_of unnumbered_of supervisory_of teis.course teis.refusal seq distance_of named low_bits ports.after ports.answer ports.meant doing_all
no_octet = refl

-- Where no frame waits, and each octet was heard, but what was put on the line last is the frame, the end of it may not have been
-- given: SABME is not told yet.
abbrev cut : List StepAt
cut = replicate 5 (at_near sends) ++ replicate 5 (at_far receives)

cut_none : machine.answer (frames.at 0 next) (doing_all cut begins).near.card.card ≡ gave None
unfolding lines.after lines.answer lines.takes_slot exchanged read_by reading header_of control_of unnumbered_of supervisory_of teis.course teis.refusal seq distance_of named low_bits ports.after ports.answer ports.meant doing_all
cut_none = refl

cut_heard : (doing_all cut begins).near.way ≡ []
unfolding lines.after lines.answer lines.takes_slot exchanged read_by reading header_of control_of unnumbered_of supervisory_of teis.course teis.refusal seq distance_of named low_bits ports.after ports.answer ports.meant doing_all
cut_heard = refl

cut_untold : (doing_all cut begins).far.told ≡ []
unfolding lines.after lines.answer lines.takes_slot exchanged read_by reading header_of control_of unnumbered_of supervisory_of teis.course teis.refusal seq distance_of named low_bits ports.after ports.answer ports.meant doing_all
cut_untold = refl

-- Fifteen beats establish, where the bound is 1284.
in_beats : (beats 15 begins).near.told ≡ confirmed Call 0 ∷ []
unfolding lines.after lines.answer lines.takes_slot exchanged read_by reading header_of control_of unnumbered_of supervisory_of teis.course teis.refusal seq distance_of named low_bits ports.after ports.answer ports.meant doing_all beats
in_beats = refl
