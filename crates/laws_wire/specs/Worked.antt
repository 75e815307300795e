-- Worked values: a card of the user's side calls one of the network's, and each end sends data while the other does. Each computes.
use Rattle.std.specs.Prelude.{◌≡◌, List, [], ◌∷◌, refl}
use Rattle.lapd_frame.specs.declared.addresses.Side.TheVariants.{User}
use Rattle.lapd_frame.specs.declared.services.Service.TheVariants.{Call}
use Rattle.lapd_frame.specs.Reading.{reading, header_of, control_of, unnumbered_of, supervisory_of}
use Rattle.lapd_frame.specs.Senders.{exchanged, reading as read_by}
use Rattle.lapd_seq.specs.Circle.{distance_of, named}
use Rattle.lapd_seq.specs.Numbers.{seq}
use Rattle.model_teis.specs.network.Events as teis
use Rattle.model_line.specs.declared.config.Config.{Config}
use Rattle.model_line.specs.Machine as lines
use Rattle.model_line.specs.Request.{Data}
use Rattle.model_line.specs.Usual.{usual}
use Rattle.laws_wire.specs.Wire.{Wire, requests, sends, receives, StepAt, at_near, at_far, doing_all, turns}
use Rattle.laws_wire.specs.Call.{calling, confirmed, indicated, data_told}

abbrev pub network : Config
network = record usual { terminals = 1; k16 = 3; slots = 16 }

abbrev pub user : Config
user = record network { side = User }

abbrev pub begins : Wire
begins = calling Call 0 user 0 network 0

abbrev pub establishes : List StepAt
establishes = at_near sends ∷ at_far receives ∷ at_far sends ∷ at_near receives ∷ []

established_near : (doing_all establishes begins).near.told ≡ confirmed Call 0 ∷ []
unfolding lines.after lines.answer lines.takes_slot exchanged read_by reading header_of control_of unnumbered_of supervisory_of teis.course teis.refusal seq distance_of named doing_all turns
established_near = refl

established_far : (doing_all establishes begins).far.told ≡ indicated Call 0 ∷ []
unfolding lines.after lines.answer lines.takes_slot exchanged read_by reading header_of control_of unnumbered_of supervisory_of teis.course teis.refusal seq distance_of named doing_all turns
established_far = refl

-- The network's end is granted data as soon as it has taken SABME, and its I-frame follows UA. Then the user's end sends, while
-- the other's frame is on its way: both ways are busy at once.
abbrev pub talks : List StepAt
talks =
    at_near sends ∷ at_far receives ∷ at_far (requests (Data Call 0 (0xAB ∷ []))) ∷ at_far sends ∷ at_far sends ∷ at_near receives
    ∷ at_near (requests (Data Call 0 (0xCD ∷ 0xEF ∷ []))) ∷ at_near sends ∷ at_near receives ∷ at_far receives ∷ at_near sends ∷ at_far sends ∷ at_far receives ∷ at_near receives
    ∷ []

told_near : (doing_all talks begins).near.told ≡ confirmed Call 0 ∷ data_told Call 0 (0xAB ∷ []) ∷ []
unfolding lines.after lines.answer lines.takes_slot exchanged read_by reading header_of control_of unnumbered_of supervisory_of teis.course teis.refusal seq distance_of named doing_all turns
told_near = refl

told_far : (doing_all talks begins).far.told ≡ indicated Call 0 ∷ data_told Call 0 (0xCD ∷ 0xEF ∷ []) ∷ []
unfolding lines.after lines.answer lines.takes_slot exchanged read_by reading header_of control_of unnumbered_of supervisory_of teis.course teis.refusal seq distance_of named doing_all turns
told_far = refl

-- Twelve turns, which is the bound: four, and four for each of two requests.
turns_of_talk : turns talks begins ≡ 12
unfolding lines.after lines.answer lines.takes_slot exchanged read_by reading header_of control_of unnumbered_of supervisory_of teis.course teis.refusal seq distance_of named doing_all turns
turns_of_talk = refl
