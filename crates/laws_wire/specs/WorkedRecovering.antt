-- Worked values of a call that recovers from its losses, and of one that does not. Each computes.
use Rattle.std.specs.Prelude.{◌≡◌, List, [], ◌∷◌, ◌++◌, refl}
use Rattle.lapd_frame.specs.declared.services.Service.TheVariants.{Call}
use Rattle.lapd_frame.specs.declared.timers.Timer.TheVariants.{T200}
use Rattle.lapd_frame.specs.Reading.{reading, header_of, control_of, unnumbered_of, supervisory_of}
use Rattle.lapd_frame.specs.Senders.{exchanged, reading as read_by}
use Rattle.lapd_seq.specs.Circle.{distance_of, named}
use Rattle.lapd_seq.specs.Numbers.{seq}
use Rattle.model_teis.specs.network.Events as teis
use Rattle.model_line.specs.Machine as lines
use Rattle.model_line.specs.Request.{Data}
use Rattle.laws_wire.specs.Wire.{Wire, requests, expires, sends, receives, loses, StepAt, at_near, at_far, doing_all, turns}
use Rattle.laws_wire.specs.Call.{confirmed, indicated, data_told}
use Rattle.laws_wire.specs.Losing.{heard_in}
use Rattle.laws_wire.specs.Recovering.{round, rounds, both_expire, with_t200_expired}
use Rattle.laws_wire.specs.Worked.{begins}
use Rattle.laws_wire.specs.WorkedAnswering.{loses_ua}
use Rattle.laws_wire.specs.WorkedLosing.{error_f}

-- SABME is lost, T200 expires, and it goes again. Then each end sends an I-frame, and both are lost.
abbrev pub loses_three : List StepAt
loses_three =
    at_near sends ∷ at_near loses ∷ at_near (expires (T200 Call 0)) ∷ round
    ++ at_near (requests (Data Call 0 (0xAB ∷ []))) ∷ at_near sends ∷ at_near loses ∷ at_far (requests (Data Call 0 (0xCD ∷ []))) ∷ at_far sends ∷ at_far loses ∷ []

abbrev pub lost : Wire
lost = doing_all loses_three begins

lost_near : heard_in lost.near ≡ confirmed Call 0 ∷ []
unfolding lines.after lines.answer lines.takes_slot exchanged read_by reading header_of control_of unnumbered_of supervisory_of teis.course teis.refusal seq distance_of named doing_all turns rounds
lost_near = refl

lost_far : heard_in lost.far ≡ indicated Call 0 ∷ []
unfolding lines.after lines.answer lines.takes_slot exchanged read_by reading header_of control_of unnumbered_of supervisory_of teis.course teis.refusal seq distance_of named doing_all turns rounds
lost_far = refl

-- One note is missing at each end. T200 expires at both, and four rounds later all is told.
abbrev pub recovered : Wire
recovered = rounds 4 (with_t200_expired Call 0 lost)

recovered_near : heard_in recovered.near ≡ confirmed Call 0 ∷ data_told Call 0 (0xCD ∷ []) ∷ []
unfolding lines.after lines.answer lines.takes_slot exchanged read_by reading header_of control_of unnumbered_of supervisory_of teis.course teis.refusal seq distance_of named doing_all turns rounds
recovered_near = refl

recovered_far : heard_in recovered.far ≡ indicated Call 0 ∷ data_told Call 0 (0xAB ∷ []) ∷ []
unfolding lines.after lines.answer lines.takes_slot exchanged read_by reading header_of control_of unnumbered_of supervisory_of teis.course teis.refusal seq distance_of named doing_all turns rounds
recovered_far = refl

-- Then each end loses an I-frame again, and one an enquiry, too: T200 expires in state 7 while its I-frame is on its
-- way. And all is recovered again.
abbrev pub loses_again : List StepAt
loses_again =
    both_expire Call 0 ++ round ++ round ++ round ++ round
    ++ at_near (requests (Data Call 0 (0xEF ∷ []))) ∷ at_near sends ∷ at_near (expires (T200 Call 0)) ∷ at_near loses ∷ at_near sends ∷ at_near loses
    ∷ at_far (requests (Data Call 0 (0x12 ∷ []))) ∷ at_far sends ∷ at_far loses ∷ []

abbrev pub lost_again : Wire
lost_again = doing_all loses_again lost

abbrev pub recovered_again : Wire
recovered_again = rounds 4 (with_t200_expired Call 0 lost_again)

again_near : heard_in recovered_again.near ≡ confirmed Call 0 ∷ data_told Call 0 (0xCD ∷ []) ∷ data_told Call 0 (0x12 ∷ []) ∷ []
unfolding lines.after lines.answer lines.takes_slot exchanged read_by reading header_of control_of unnumbered_of supervisory_of teis.course teis.refusal seq distance_of named doing_all turns rounds
again_near = refl

again_far : heard_in recovered_again.far ≡ indicated Call 0 ∷ data_told Call 0 (0xAB ∷ []) ∷ data_told Call 0 (0xEF ∷ []) ∷ []
unfolding lines.after lines.answer lines.takes_slot exchanged read_by reading header_of control_of unnumbered_of supervisory_of teis.course teis.refusal seq distance_of named doing_all turns rounds
again_far = refl

-- In state 5 T200 has to be long enough, too: where it expires while SABME is on its way SABME comes twice, and error F
-- is told.
abbrev pub rings_twice : List StepAt
rings_twice = at_near sends ∷ at_near (expires (T200 Call 0)) ∷ at_near sends ∷ at_far receives ∷ at_far receives ∷ []

heard_ringing : heard_in (doing_all rings_twice begins).far ≡ indicated Call 0 ∷ error_f ∷ []
unfolding lines.after lines.answer lines.takes_slot exchanged read_by reading header_of control_of unnumbered_of supervisory_of teis.course teis.refusal seq distance_of named doing_all turns
heard_ringing = refl

-- That UA is not lost is needed: as SABME comes again error F is told.
heard_again : heard_in (doing_all loses_ua begins).far ≡ indicated Call 0 ∷ error_f ∷ []
unfolding lines.after lines.answer lines.takes_slot exchanged read_by reading header_of control_of unnumbered_of supervisory_of teis.course teis.refusal seq distance_of named doing_all turns rounds
heard_again = refl
