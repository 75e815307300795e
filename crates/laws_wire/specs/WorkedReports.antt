-- Worked values of reports that find no place to wait. Each computes.
use Rattle.std.specs.Prelude.{◌≡◌, true, List, [], ◌∷◌, ◌++◌, refl}
use Rattle.lapd_frame.specs.declared.services.Service.TheVariants.{Call}
use Rattle.lapd_frame.specs.Reading.{reading, header_of, control_of, unnumbered_of, supervisory_of}
use Rattle.lapd_frame.specs.Senders.{exchanged, reading as read_by}
use Rattle.lapd_seq.specs.Circle.{distance_of, named}
use Rattle.lapd_seq.specs.Numbers.{seq}
use Rattle.model_teis.specs.network.Events as teis
use Rattle.model_line.specs.Machine as lines
use Rattle.model_line.specs.Request.{Data, SetBusy, ClearBusy}
use Rattle.laws_wire.specs.Wire.{Wire, requests, sends, receives, StepAt, at_near, at_far, doing_all, IsStill}
use Rattle.laws_wire.specs.Call.{indicated}
use Rattle.laws_wire.specs.Losing.{heard_in}
use Rattle.laws_wire.specs.Recovering.{round}
use Rattle.laws_wire.specs.Arriving.{runs_t200}
use Rattle.laws_wire.specs.Settling.{none_busy, busy}
use Rattle.laws_wire.specs.Worked.{begins}

-- While UA waits the far end is busy, ready, busy, and ready again: four places are taken, and the last RR finds none. Nothing is lost
-- on the way, and no I-frame comes to it while it is busy. What the near end is granted then does not go, until its T200 expires: no
-- turn is left, and neither end is busy, but the near end takes the other for busy.
abbrev pub toggles : List StepAt
toggles =
    at_near sends ∷ at_far receives ∷ at_far (requests (SetBusy Call 0)) ∷ at_far (requests (ClearBusy Call 0)) ∷ at_far (requests (SetBusy Call 0))
    ∷ at_far (requests (ClearBusy Call 0)) ∷ (round ++ round ++ round ++ round ++ at_near (requests (Data Call 0 (1 ∷ []))) ∷ round)

abbrev toggled : Wire
toggled = doing_all toggles begins

toggled_free : busy toggles begins none_busy ≡ none_busy
unfolding lines.after lines.answer lines.takes_slot exchanged read_by reading header_of control_of unnumbered_of supervisory_of teis.course teis.refusal seq distance_of named doing_all busy
toggled_free = refl

toggled_still : IsStill toggled
unfolding lines.after lines.answer lines.takes_slot exchanged read_by reading header_of control_of unnumbered_of supervisory_of teis.course teis.refusal seq distance_of named doing_all
toggled_still = record { near = refl; far = refl; near_way = refl; far_way = refl }

toggled_granted : toggled.near.granted ≡ (1 ∷ []) ∷ []
unfolding lines.after lines.answer lines.takes_slot exchanged read_by reading header_of control_of unnumbered_of supervisory_of teis.course teis.refusal seq distance_of named doing_all
toggled_granted = refl

toggled_far : heard_in toggled.far ≡ indicated Call 0 ∷ []
unfolding lines.after lines.answer lines.takes_slot exchanged read_by reading header_of control_of unnumbered_of supervisory_of teis.course teis.refusal seq distance_of named doing_all
toggled_far = refl

toggled_runs : runs_t200 Call 0 toggled.near ≡ true
unfolding lines.after lines.answer lines.takes_slot exchanged read_by reading header_of control_of unnumbered_of supervisory_of teis.course teis.refusal seq distance_of named doing_all
toggled_runs = refl
