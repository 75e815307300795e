-- Worked values of a call in which an I-frame is lost, and from then on nothing: T200 expires twice, as one content is missing. Each
-- computes.
use Rattle.std.specs.Prelude.{◌≡◌, false, List, [], ◌∷◌, ◌++◌, refl}
use Rattle.lapd_frame.specs.declared.services.Service.TheVariants.{Call}
use Rattle.lapd_frame.specs.declared.timers.Timer.TheVariants.{T200}
use Rattle.lapd_frame.specs.Reading.{reading, header_of, control_of, unnumbered_of, supervisory_of}
use Rattle.lapd_frame.specs.Senders.{exchanged, reading as read_by}
use Rattle.lapd_seq.specs.Circle.{distance_of, named}
use Rattle.lapd_seq.specs.Numbers.{seq}
use Rattle.model_teis.specs.network.Events as teis
use Rattle.model_line.specs.Machine as lines
use Rattle.model_line.specs.Request.{Data}
use Rattle.laws_wire.specs.Wire.{Wire, requests, expires, sends, receives, loses, StepAt, at_near, at_far, doing_all}
use Rattle.laws_wire.specs.Call.{confirmed, indicated, data_told}
use Rattle.laws_wire.specs.Losing.{heard_in}
use Rattle.laws_wire.specs.Recovering.{round}
use Rattle.laws_wire.specs.Resting.{moves}
use Rattle.laws_wire.specs.Arriving.{runs_t200, near_asks}
use Rattle.laws_wire.specs.Expiring.{how_often, most_since}
use Rattle.laws_wire.specs.Worked.{begins}

-- The near end's I-frame is lost.
abbrev pub loses_one : List StepAt
loses_one = round ++ at_near (requests (Data Call 0 (1 ∷ []))) ∷ at_near sends ∷ at_near loses ∷ []

abbrev pub missing : Wire
missing = doing_all loses_one begins

-- Its T200 expires, and it sends again what the answer does not acknowledge. Before that is acknowledged T200 expires again.
abbrev pub asks_first : List StepAt
asks_first = at_near (expires (T200 Call 0)) ∷ (round ++ (at_near sends ∷ at_far receives ∷ []))

abbrev pub asks_twice : List StepAt
asks_twice = asks_first ++ at_near (expires (T200 Call 0)) ∷ round

abbrev pub made_good : Wire
made_good = doing_all asks_twice missing

pub missing_near : heard_in missing.near ≡ confirmed Call 0 ∷ []
unfolding lines.after lines.answer lines.takes_slot exchanged read_by reading header_of control_of unnumbered_of supervisory_of teis.course teis.refusal seq distance_of named doing_all
missing_near = refl

missing_far : heard_in missing.far ≡ indicated Call 0 ∷ []
unfolding lines.after lines.answer lines.takes_slot exchanged read_by reading header_of control_of unnumbered_of supervisory_of teis.course teis.refusal seq distance_of named doing_all
missing_far = refl

twice : how_often (near_asks Call 0) asks_twice missing ≡ 2
unfolding lines.after lines.answer lines.takes_slot exchanged read_by reading header_of control_of unnumbered_of supervisory_of teis.course teis.refusal seq distance_of named doing_all how_often
twice = refl

-- So it expires as often as may be. Then all is told and acknowledged, and it runs no more.
pub good_far : heard_in made_good.far ≡ indicated Call 0 ∷ data_told Call 0 (1 ∷ []) ∷ []
unfolding lines.after lines.answer lines.takes_slot exchanged read_by reading header_of control_of unnumbered_of supervisory_of teis.course teis.refusal seq distance_of named doing_all
good_far = refl

good_rests : (runs_t200 Call 0 made_good.near ≡ false) × (runs_t200 Call 0 made_good.far ≡ false)
unfolding lines.after lines.answer lines.takes_slot exchanged read_by reading header_of control_of unnumbered_of supervisory_of teis.course teis.refusal seq distance_of named doing_all
good_rests = (refl, refl)

-- There are ten moves, and with a window of 7 at most 182.
ten : moves asks_twice missing ≡ 10
unfolding lines.after lines.answer lines.takes_slot exchanged read_by reading header_of control_of unnumbered_of supervisory_of teis.course teis.refusal seq distance_of named doing_all moves
ten = refl

at_most : most_since Call 0 7 missing ≡ 182
unfolding lines.after lines.answer lines.takes_slot exchanged read_by reading header_of control_of unnumbered_of supervisory_of teis.course teis.refusal seq distance_of named doing_all
at_most = refl
