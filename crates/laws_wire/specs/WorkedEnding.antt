-- Worked values of a call that ends. Each computes.
use Rattle.std.specs.Prelude.{◌≡◌, false, List, [], ◌∷◌, ◌++◌, refl}
use Rattle.lapd_frame.specs.declared.notes.ErrorCode.TheVariants.{H, I}
use Rattle.lapd_frame.specs.declared.notes.Note.TheVariants.{Error, ReleaseConfirm}
use Rattle.lapd_frame.specs.declared.services.Service.TheVariants.{Call}
use Rattle.lapd_frame.specs.declared.timers.Timer.TheVariants.{T200, T203}
use Rattle.lapd_frame.specs.Reading.{reading, header_of, control_of, unnumbered_of, supervisory_of}
use Rattle.lapd_frame.specs.Senders.{exchanged, reading as read_by}
use Rattle.lapd_seq.specs.Circle.{distance_of, named}
use Rattle.lapd_seq.specs.Numbers.{seq}
use Rattle.model_teis.specs.network.Events as teis
use Rattle.model_line.specs.Event.{nothing}
use Rattle.model_line.specs.Machine as lines
use Rattle.model_line.specs.Request.{Release}
use Rattle.laws_wire.specs.Wire.{Wire, requests, expires, sends, receives, loses, acting, StepAt, at_near, at_far, doing_all, turns, IsStill}
use Rattle.laws_wire.specs.Call.{confirmed, indicated}
use Rattle.laws_wire.specs.Losing.{heard_in}
use Rattle.laws_wire.specs.Recovering.{round}
use Rattle.laws_wire.specs.Arriving.{runs_t200}
use Rattle.laws_wire.specs.Ending.{release_confirmed, release_indicated}
use Rattle.laws_wire.specs.Worked.{begins, establishes}

abbrev pub established : Wire
established = doing_all establishes begins

pub rests : (runs_t200 Call 0 established.near ≡ false) × (runs_t200 Call 0 established.far ≡ false)
unfolding lines.after lines.answer lines.takes_slot exchanged read_by reading header_of control_of unnumbered_of supervisory_of teis.course teis.refusal seq distance_of named doing_all turns
rests = (refl, refl)

pub still : IsStill established
unfolding lines.after lines.answer lines.takes_slot exchanged read_by reading header_of control_of unnumbered_of supervisory_of teis.course teis.refusal seq distance_of named doing_all turns
still = record { near = refl; far = refl; near_way = refl; far_way = refl }

abbrev pub released : Wire
released = acting (requests (Release Call 0)) established

-- DISC is lost, and then UA: DISC goes three times, and is answered by DM the last time.
abbrev pub loses_disc : List StepAt
loses_disc = at_near sends ∷ at_near loses ∷ at_near (expires (T200 Call 0)) ∷ at_near sends ∷ at_far receives ∷ at_far sends ∷ at_far loses ∷ []

abbrev pub loses_both : List StepAt
loses_both = loses_disc ++ at_near (expires (T200 Call 0)) ∷ round

abbrev pub ended : Wire
ended = doing_all loses_both released

ended_near : heard_in ended.near ≡ confirmed Call 0 ∷ release_confirmed Call 0 ∷ []
unfolding lines.after lines.answer lines.takes_slot exchanged read_by reading header_of control_of unnumbered_of supervisory_of teis.course teis.refusal seq distance_of named doing_all turns
ended_near = refl

ended_far : heard_in ended.far ≡ indicated Call 0 ∷ release_indicated Call 0 ∷ []
unfolding lines.after lines.answer lines.takes_slot exchanged read_by reading header_of control_of unnumbered_of supervisory_of teis.course teis.refusal seq distance_of named doing_all turns
ended_far = refl

pub ended_still : IsStill ended
unfolding lines.after lines.answer lines.takes_slot exchanged read_by reading header_of control_of unnumbered_of supervisory_of teis.course teis.refusal seq distance_of named doing_all turns
ended_still = record { near = refl; far = refl; near_way = refl; far_way = refl }

pub ended_rests : runs_t200 Call 0 ended.near ≡ false
unfolding lines.after lines.answer lines.takes_slot exchanged read_by reading header_of control_of unnumbered_of supervisory_of teis.course teis.refusal seq distance_of named doing_all turns
ended_rests = refl

-- Where N200 is used up the end that releases tells error H, and the other is not told of it.
abbrev again : List StepAt
again = at_near sends ∷ at_near loses ∷ at_near (expires (T200 Call 0)) ∷ []

abbrev gives_up : Wire
gives_up = doing_all (again ++ again ++ again ++ again) released

gives_up_near : heard_in gives_up.near ≡ confirmed Call 0 ∷ record nothing { notes = Error Call 0 H ∷ ReleaseConfirm Call 0 ∷ [] } ∷ []
unfolding lines.after lines.answer lines.takes_slot exchanged read_by reading header_of control_of unnumbered_of supervisory_of teis.course teis.refusal seq distance_of named doing_all turns
gives_up_near = refl

gives_up_far : heard_in gives_up.far ≡ indicated Call 0 ∷ []
unfolding lines.after lines.answer lines.takes_slot exchanged read_by reading header_of control_of unnumbered_of supervisory_of teis.course teis.refusal seq distance_of named doing_all turns
gives_up_far = refl

-- Where timers of the other end expire, too, it may give up first: T203 expires, and each enquiry comes to an end that does not heed it.
abbrev far_asks : List StepAt
far_asks = at_far sends ∷ at_near receives ∷ at_far (expires (T200 Call 0)) ∷ []

other_gives_up : heard_in (doing_all (at_far (expires (T203 Call 0)) ∷ far_asks ++ far_asks ++ far_asks ++ far_asks) released).far
    ≡ indicated Call 0 ∷ record nothing { notes = Error Call 0 I ∷ [] } ∷ []
unfolding lines.after lines.answer lines.takes_slot exchanged read_by reading header_of control_of unnumbered_of supervisory_of teis.course teis.refusal seq distance_of named doing_all turns
other_gives_up = refl
