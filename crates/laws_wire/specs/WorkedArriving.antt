-- Worked values of a call in which frames are lost, and T200 of one end expires amid what goes on. Each computes.
use Rattle.std.specs.Prelude.{◌≡◌, true, false, List, [], ◌∷◌, ◌++◌, refl}
use Rattle.lapd_frame.specs.declared.services.Service.TheVariants.{Call}
use Rattle.lapd_frame.specs.declared.timers.Timer.TheVariants.{T200}
use Rattle.lapd_frame.specs.Reading.{reading, header_of, control_of, unnumbered_of, supervisory_of}
use Rattle.lapd_frame.specs.Senders.{exchanged, reading as read_by}
use Rattle.lapd_seq.specs.Circle.{distance_of, named}
use Rattle.lapd_seq.specs.Numbers.{seq}
use Rattle.model_teis.specs.network.Events as teis
use Rattle.model_line.specs.declared.config.Config.{Config}
use Rattle.model_line.specs.Machine as lines
use Rattle.model_line.specs.Request.{Data}
use Rattle.laws_wire.specs.Wire.{Wire, requests, expires, sends, receives, loses, StepAt, at_near, at_far, doing_all, turns, IsStill}
use Rattle.laws_wire.specs.Call.{calling, confirmed, indicated, data_told}
use Rattle.laws_wire.specs.Losing.{heard_in}
use Rattle.laws_wire.specs.Recovering.{round}
use Rattle.laws_wire.specs.Arriving.{runs_t200, near_asks, ever, most_left}
use Rattle.laws_wire.specs.Worked.{user, network, begins}

-- Each end loses its first I-frame, and the far end's second is on its way.
abbrev pub loses_two : List StepAt
loses_two =
    round
    ++ at_near (requests (Data Call 0 (1 ∷ []))) ∷ at_near sends ∷ at_near loses
    ∷ at_far (requests (Data Call 0 (2 ∷ []))) ∷ at_far (requests (Data Call 0 (3 ∷ []))) ∷ at_far sends ∷ at_far loses ∷ at_far sends ∷ []

-- From then on nothing is lost. The near end takes the second, so that REJ waits, and then its T200 expires; that of the far end never
-- does.
abbrev pub goes_on : List StepAt
goes_on =
    at_near receives ∷ at_near (expires (T200 Call 0)) ∷ at_far (requests (Data Call 0 (4 ∷ [])))
    ∷ (round ++ round ++ round ++ round ++ round)

abbrev pub lossy : Wire
lossy = doing_all loses_two begins

abbrev pub over : Wire
over = doing_all goes_on lossy

pub lossy_near : heard_in lossy.near ≡ confirmed Call 0 ∷ []
unfolding lines.after lines.answer lines.takes_slot exchanged read_by reading header_of control_of unnumbered_of supervisory_of teis.course teis.refusal seq distance_of named doing_all turns ever
lossy_near = refl

pub over_far : heard_in over.far ≡ indicated Call 0 ∷ data_told Call 0 (1 ∷ []) ∷ []
unfolding lines.after lines.answer lines.takes_slot exchanged read_by reading header_of control_of unnumbered_of supervisory_of teis.course teis.refusal seq distance_of named doing_all turns ever
over_far = refl

pub over_near : heard_in over.near ≡ confirmed Call 0 ∷ data_told Call 0 (2 ∷ []) ∷ data_told Call 0 (3 ∷ []) ∷ data_told Call 0 (4 ∷ []) ∷ []
unfolding lines.after lines.answer lines.takes_slot exchanged read_by reading header_of control_of unnumbered_of supervisory_of teis.course teis.refusal seq distance_of named doing_all turns ever
over_near = refl

pub near_asked : ever (near_asks Call 0) goes_on lossy ≡ true
unfolding lines.after lines.answer lines.takes_slot exchanged read_by reading header_of control_of unnumbered_of supervisory_of teis.course teis.refusal seq distance_of named doing_all turns ever
near_asked = refl

pub over_still : IsStill over
unfolding lines.after lines.answer lines.takes_slot exchanged read_by reading header_of control_of unnumbered_of supervisory_of teis.course teis.refusal seq distance_of named doing_all turns ever
over_still = record { near = refl; far = refl; near_way = refl; far_way = refl }

-- The same, but behind the last request each end gives three times, and then takes three times, four times over: there are
-- twenty turns, and all has come.
abbrev pub asks : List StepAt
asks = at_near receives ∷ at_near (expires (T200 Call 0)) ∷ at_far (requests (Data Call 0 (4 ∷ []))) ∷ []

abbrev pub asked : Wire
asked = doing_all asks lossy

abbrev bulk : List StepAt
bulk =
    at_near sends ∷ at_near sends ∷ at_near sends ∷ at_far sends ∷ at_far sends ∷ at_far sends
    ∷ at_far receives ∷ at_far receives ∷ at_far receives ∷ at_near receives ∷ at_near receives ∷ at_near receives ∷ []

abbrev pub in_bulk : List StepAt
in_bulk = bulk ++ bulk ++ bulk ++ bulk

bulk_turns : turns in_bulk asked ≡ 20
unfolding lines.after lines.answer lines.takes_slot exchanged read_by reading header_of control_of unnumbered_of supervisory_of teis.course teis.refusal seq distance_of named doing_all turns ever
bulk_turns = refl

pub bulk_still : IsStill (doing_all in_bulk asked)
unfolding lines.after lines.answer lines.takes_slot exchanged read_by reading header_of control_of unnumbered_of supervisory_of teis.course teis.refusal seq distance_of named doing_all turns ever
bulk_still = record { near = refl; far = refl; near_way = refl; far_way = refl }

bulk_most : most_left Call 0 7 asked ≡ 224
unfolding lines.after lines.answer lines.takes_slot exchanged read_by reading header_of control_of unnumbered_of supervisory_of teis.course teis.refusal seq distance_of named doing_all turns ever
bulk_most = refl

pub asked_near : ever (near_asks Call 0) asks lossy ≡ true
unfolding lines.after lines.answer lines.takes_slot exchanged read_by reading header_of control_of unnumbered_of supervisory_of teis.course teis.refusal seq distance_of named doing_all turns ever
asked_near = refl

-- With room for two control frames alone: REJ and an answer wait at the near end as its T200 expires, so that its enquiry is lost. No
-- turn is left, though what it sent has not been told, and T200 runs again.
abbrev narrow : Config
narrow = record user { control = 2 }

abbrev narrow_begins : Wire
narrow_begins = calling Call 0 narrow 0 network 0

abbrev finds_no_room : List StepAt
finds_no_room =
    at_near receives ∷ at_far (expires (T200 Call 0)) ∷ at_far sends ∷ at_near receives ∷ at_near (expires (T200 Call 0))
    ∷ (round ++ round ++ round ++ round)

abbrev stuck : Wire
stuck = doing_all finds_no_room (doing_all loses_two narrow_begins)

stuck_asked : ever (near_asks Call 0) finds_no_room (doing_all loses_two narrow_begins) ≡ true
unfolding lines.after lines.answer lines.takes_slot exchanged read_by reading header_of control_of unnumbered_of supervisory_of teis.course teis.refusal seq distance_of named doing_all turns ever
stuck_asked = refl

stuck_still : IsStill stuck
unfolding lines.after lines.answer lines.takes_slot exchanged read_by reading header_of control_of unnumbered_of supervisory_of teis.course teis.refusal seq distance_of named doing_all turns ever
stuck_still = record { near = refl; far = refl; near_way = refl; far_way = refl }

stuck_granted : stuck.near.granted ≡ (1 ∷ []) ∷ []
unfolding lines.after lines.answer lines.takes_slot exchanged read_by reading header_of control_of unnumbered_of supervisory_of teis.course teis.refusal seq distance_of named doing_all turns ever
stuck_granted = refl

stuck_far : heard_in stuck.far ≡ indicated Call 0 ∷ []
unfolding lines.after lines.answer lines.takes_slot exchanged read_by reading header_of control_of unnumbered_of supervisory_of teis.course teis.refusal seq distance_of named doing_all turns ever
stuck_far = refl

-- Where nothing is lost any more, but no T200 expires: the near end takes the second, and by its REJ all that the far end
-- sent comes. What the near end sent has not been told, though no turn is left: its T200 runs, and an expiry is needed.
abbrev pub waits : List StepAt
waits = round ++ round ++ round ++ round

abbrev pub quiet : Wire
quiet = doing_all waits lossy

quiet_asked : ever (near_asks Call 0) waits lossy ≡ false
unfolding lines.after lines.answer lines.takes_slot exchanged read_by reading header_of control_of unnumbered_of supervisory_of teis.course teis.refusal seq distance_of named doing_all turns ever
quiet_asked = refl

pub quiet_still : IsStill quiet
unfolding lines.after lines.answer lines.takes_slot exchanged read_by reading header_of control_of unnumbered_of supervisory_of teis.course teis.refusal seq distance_of named doing_all turns ever
quiet_still = record { near = refl; far = refl; near_way = refl; far_way = refl }

pub quiet_runs : (runs_t200 Call 0 quiet.near ≡ true) × (runs_t200 Call 0 quiet.far ≡ false)
unfolding lines.after lines.answer lines.takes_slot exchanged read_by reading header_of control_of unnumbered_of supervisory_of teis.course teis.refusal seq distance_of named doing_all turns ever
quiet_runs = (refl, refl)

quiet_granted : quiet.near.granted ≡ (1 ∷ []) ∷ []
unfolding lines.after lines.answer lines.takes_slot exchanged read_by reading header_of control_of unnumbered_of supervisory_of teis.course teis.refusal seq distance_of named doing_all turns ever
quiet_granted = refl

quiet_far : heard_in quiet.far ≡ indicated Call 0 ∷ []
unfolding lines.after lines.answer lines.takes_slot exchanged read_by reading header_of control_of unnumbered_of supervisory_of teis.course teis.refusal seq distance_of named doing_all turns ever
quiet_far = refl

quiet_near : heard_in quiet.near ≡ confirmed Call 0 ∷ data_told Call 0 (2 ∷ []) ∷ data_told Call 0 (3 ∷ []) ∷ []
unfolding lines.after lines.answer lines.takes_slot exchanged read_by reading header_of control_of unnumbered_of supervisory_of teis.course teis.refusal seq distance_of named doing_all turns ever
quiet_near = refl
