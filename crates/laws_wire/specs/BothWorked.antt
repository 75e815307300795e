-- Worked values of calls in which both ends ask for the link. Each computes.
use Rattle.std.specs.Prelude.{◌≡◌, true, false, List, [], ◌∷◌, ◌++◌, refl}
use Rattle.lapd_frame.specs.declared.services.Service.TheVariants.{Call}
use Rattle.lapd_frame.specs.Reading.{reading, header_of, control_of, unnumbered_of, supervisory_of}
use Rattle.lapd_frame.specs.Senders.{exchanged, reading as read_by}
use Rattle.lapd_seq.specs.Circle.{distance_of, named}
use Rattle.lapd_seq.specs.Numbers.{seq}
use Rattle.model_teis.specs.network.Events as teis
use Rattle.model_line.specs.Machine as lines
use Rattle.model_line.specs.Request.{Establish, Data}
use Rattle.laws_wire.specs.Wire.{requests, sends, receives, Step, StepAt, at_near, at_far, doing_all, turns}
use Rattle.laws_wire.specs.Call.{both_call, confirmed, indicated, data_told}
use Rattle.laws_wire.specs.Worked.{begins, establishes}

abbrev pub asks : Step
asks = requests (Establish Call 0)

-- SABMEs cross: the far end calls while SABME is on its way to it. Each answers the other's by UA.
abbrev pub crosses : List StepAt
crosses =
    at_near sends ∷ at_far asks ∷ at_far sends ∷ at_far receives ∷ at_near receives ∷ at_near sends ∷ at_far sends ∷ at_far receives ∷ at_near receives ∷ []

-- The far end is up first, and sends: its UA goes before its I-frame. Then the near end sends; and who asks again is refused.
abbrev pub both_send : List StepAt
both_send =
    at_near asks ∷ at_near sends ∷ at_far asks ∷ at_far sends ∷ at_far receives ∷ at_near receives ∷ at_near sends ∷ at_far receives
    ∷ at_far (requests (Data Call 0 (0xAB ∷ []))) ∷ at_far asks ∷ at_far sends ∷ at_far sends ∷ at_near receives ∷ at_near receives
    ∷ at_near (requests (Data Call 0 (0xCD ∷ []))) ∷ at_near sends ∷ at_far receives ∷ at_far sends ∷ at_near receives ∷ []

both_crossing : both_call crosses begins ≡ true
unfolding lines.after lines.answer lines.takes_slot exchanged read_by reading header_of control_of unnumbered_of supervisory_of teis.course teis.refusal seq distance_of named doing_all turns both_call
both_crossing = refl

near_crossing : (doing_all crosses begins).near.told ≡ confirmed Call 0 ∷ []
unfolding lines.after lines.answer lines.takes_slot exchanged read_by reading header_of control_of unnumbered_of supervisory_of teis.course teis.refusal seq distance_of named doing_all turns both_call
near_crossing = refl

far_crossing : (doing_all crosses begins).far.told ≡ confirmed Call 0 ∷ []
unfolding lines.after lines.answer lines.takes_slot exchanged read_by reading header_of control_of unnumbered_of supervisory_of teis.course teis.refusal seq distance_of named doing_all turns both_call
far_crossing = refl

-- As many turns as the law allows.
turns_crossing : turns crosses begins ≡ 8
unfolding lines.after lines.answer lines.takes_slot exchanged read_by reading header_of control_of unnumbered_of supervisory_of teis.course teis.refusal seq distance_of named doing_all turns both_call
turns_crossing = refl

near_sending : (doing_all both_send begins).near.told ≡ confirmed Call 0 ∷ data_told Call 0 (0xAB ∷ []) ∷ []
unfolding lines.after lines.answer lines.takes_slot exchanged read_by reading header_of control_of unnumbered_of supervisory_of teis.course teis.refusal seq distance_of named doing_all turns both_call
near_sending = refl

far_sending : (doing_all both_send begins).far.told ≡ confirmed Call 0 ∷ data_told Call 0 (0xCD ∷ []) ∷ []
unfolding lines.after lines.answer lines.takes_slot exchanged read_by reading header_of control_of unnumbered_of supervisory_of teis.course teis.refusal seq distance_of named doing_all turns both_call
far_sending = refl

-- Where the far end asks once it was told, it is refused, and one end has called.
one_calls : both_call (establishes ++ at_far asks ∷ []) begins ≡ false
unfolding lines.after lines.answer lines.takes_slot exchanged read_by reading header_of control_of unnumbered_of supervisory_of teis.course teis.refusal seq distance_of named doing_all turns both_call
one_calls = refl

told_once : (doing_all (establishes ++ at_far asks ∷ []) begins).far.told ≡ indicated Call 0 ∷ []
unfolding lines.after lines.answer lines.takes_slot exchanged read_by reading header_of control_of unnumbered_of supervisory_of teis.course teis.refusal seq distance_of named doing_all turns both_call
told_once = refl
