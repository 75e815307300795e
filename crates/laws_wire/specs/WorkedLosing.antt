-- Worked values of a call in which frames are lost and timers expire. Each computes.
use Rattle.std.specs.Prelude.{◌≡◌, List, [], ◌∷◌, ◌++◌, refl}
use Rattle.lapd_frame.specs.declared.notes.ErrorCode.TheVariants.{F, O}
use Rattle.lapd_frame.specs.declared.notes.Note.TheVariants.{Error}
use Rattle.lapd_frame.specs.declared.services.Service.TheVariants.{Call}
use Rattle.lapd_frame.specs.declared.timers.Timer.TheVariants.{T200, T203}
use Rattle.lapd_frame.specs.Reading.{reading, header_of, control_of, unnumbered_of, supervisory_of}
use Rattle.lapd_frame.specs.Senders.{exchanged, reading as read_by}
use Rattle.lapd_seq.specs.Circle.{distance_of, named}
use Rattle.lapd_seq.specs.Numbers.{seq}
use Rattle.model_teis.specs.network.Events as teis
use Rattle.model_line.specs.declared.config.Config.{Config}
use Rattle.model_line.specs.Event.{LineTold, nothing}
use Rattle.model_line.specs.Machine as lines
use Rattle.model_line.specs.Request.{Data}
use Rattle.laws_wire.specs.Wire.{requests, expires, sends, receives, loses, StepAt, at_near, at_far, doing_all, turns}
use Rattle.laws_wire.specs.Call.{calling, confirmed, indicated, data_told}
use Rattle.laws_wire.specs.Losing.{heard_in}
use Rattle.laws_wire.specs.Worked.{network, user, begins, establishes}

-- SABME is lost, T200 expires, and it goes again. Then an I-frame is lost, T200 expires, the other end is asked, and it goes again.
abbrev pub loses_two : List StepAt
loses_two =
    at_near sends ∷ at_near loses ∷ at_near (expires (T200 Call 0)) ∷ establishes
    ++ at_near (requests (Data Call 0 (0xAB ∷ []))) ∷ at_near sends ∷ at_near loses ∷ at_near (expires (T200 Call 0))
    ∷ at_near sends ∷ at_far receives ∷ at_far sends ∷ at_near receives ∷ at_near sends ∷ at_far receives ∷ at_far sends ∷ at_near receives ∷ []

heard_near : heard_in (doing_all loses_two begins).near ≡ confirmed Call 0 ∷ []
unfolding lines.after lines.answer lines.takes_slot exchanged read_by reading header_of control_of unnumbered_of supervisory_of teis.course teis.refusal seq distance_of named doing_all turns
heard_near = refl

heard_far : heard_in (doing_all loses_two begins).far ≡ indicated Call 0 ∷ data_told Call 0 (0xAB ∷ []) ∷ []
unfolding lines.after lines.answer lines.takes_slot exchanged read_by reading header_of control_of unnumbered_of supervisory_of teis.course teis.refusal seq distance_of named doing_all turns
heard_far = refl

-- No frame is lost, but T200 expires while an enquiry is on its way (`specs/WorkedUntimely` of `laws_link`, with cards): an error
-- is told, the link is established a second time, and contents come a second time.
abbrev pub two_enquiries : List StepAt
two_enquiries =
    establishes ++ at_near (requests (Data Call 0 (0xAB ∷ []))) ∷ at_near (expires (T203 Call 0)) ∷ at_near (expires (T200 Call 0)) ∷ at_near sends ∷ at_near sends
    ∷ at_far receives ∷ at_far sends ∷ at_near receives ∷ at_near sends ∷ at_near (expires (T200 Call 0)) ∷ at_far receives ∷ at_far sends ∷ at_near receives ∷ []

abbrev pub comes_twice : List StepAt
comes_twice =
    two_enquiries ++ at_far receives ∷ at_far sends ∷ at_near receives ∷ at_near sends ∷ at_near sends ∷ at_far receives ∷ at_far receives ∷ at_far sends ∷ at_far sends
    ∷ at_near receives ∷ at_near receives ∷ at_near sends ∷ at_far receives ∷ []

abbrev pub error_f : LineTold
error_f = record nothing { notes = Error Call 0 F ∷ [] }

heard_twice : heard_in (doing_all comes_twice begins).far ≡ indicated Call 0 ∷ data_told Call 0 (0xAB ∷ []) ∷ error_f ∷ data_told Call 0 (0xAB ∷ []) ∷ []
unfolding lines.after lines.answer lines.takes_slot exchanged read_by reading header_of control_of unnumbered_of supervisory_of teis.course teis.refusal seq distance_of named doing_all turns
heard_twice = refl

-- Where N201 is not the same at both, contents that one end may send are too long for the other.
abbrev narrow : Config
narrow = record network { n201 = 8 }

abbrev sends_nine : List StepAt
sends_nine = establishes ++ at_near (requests (Data Call 0 (1 ∷ 2 ∷ 3 ∷ 4 ∷ 5 ∷ 6 ∷ 7 ∷ 8 ∷ 9 ∷ []))) ∷ at_near sends ∷ at_far receives ∷ []

heard_of_nine : heard_in (doing_all sends_nine (calling Call 0 user 0 narrow 0)).far ≡ indicated Call 0 ∷ record nothing { notes = Error Call 0 O ∷ [] } ∷ []
unfolding lines.after lines.answer lines.takes_slot exchanged read_by reading header_of control_of unnumbered_of supervisory_of teis.course teis.refusal seq distance_of named doing_all turns
heard_of_nine = refl
