-- Worked values of calls that do not stay patient: what `Settling` says is not so there. Each computes.
use Rattle.std.specs.Prelude.{◌≡◌, List, [], ◌∷◌, ◌++◌, refl}
use Rattle.lapd_frame.specs.declared.notes.ErrorCode.TheVariants.{G, I}
use Rattle.lapd_frame.specs.declared.notes.Note.TheVariants.{Error, ReleaseIndication}
use Rattle.lapd_frame.specs.declared.services.Service.TheVariants.{Call}
use Rattle.lapd_frame.specs.declared.timers.Timer.TheVariants.{T200, T203}
use Rattle.lapd_frame.specs.Reading.{reading, header_of, control_of, unnumbered_of, supervisory_of}
use Rattle.lapd_frame.specs.Senders.{exchanged, reading as read_by}
use Rattle.lapd_seq.specs.Circle.{distance_of, named}
use Rattle.lapd_seq.specs.Numbers.{seq}
use Rattle.model_teis.specs.network.Events as teis
use Rattle.model_line.specs.Event.{LineTold, nothing}
use Rattle.model_line.specs.Machine as lines
use Rattle.model_line.specs.Request.{Data}
use Rattle.laws_wire.specs.Wire.{Wire, requests, expires, sends, receives, loses, StepAt, at_near, at_far, doing_all, IsStill}
use Rattle.laws_wire.specs.Call.{calling, confirmed, indicated}
use Rattle.laws_wire.specs.Losing.{heard_in}
use Rattle.laws_wire.specs.Recovering.{rounds, with_t200_expired}
use Rattle.laws_wire.specs.Resting.{moves, expiries}
use Rattle.laws_wire.specs.Answering.{error_f}
use Rattle.laws_wire.specs.Settling.{reports, most_moves, near_expires}
use Rattle.laws_wire.specs.Worked.{network, user, begins, establishes}

-- SABME is lost, and lost again each time that T200 expires: N200 times.
abbrev is_lost : List StepAt
is_lost = at_near sends ∷ at_near loses ∷ []

abbrev expiring : List StepAt
expiring = at_near (expires (T200 Call 0)) ∷ []

abbrev rings_on : List StepAt
rings_on = is_lost ++ expiring ++ is_lost ++ expiring ++ is_lost ++ expiring ++ is_lost

rings_still : IsStill (doing_all rings_on begins)
unfolding lines.after lines.answer lines.takes_slot exchanged read_by reading header_of control_of unnumbered_of supervisory_of teis.course teis.refusal seq distance_of named doing_all
rings_still = record { near = refl; far = refl; near_way = refl; far_way = refl }

rings_near : heard_in (doing_all rings_on begins).near ≡ []
unfolding lines.after lines.answer lines.takes_slot exchanged read_by reading header_of control_of unnumbered_of supervisory_of teis.course teis.refusal seq distance_of named doing_all
rings_near = refl

-- Then its expiry gives the establishment up: the end that calls is told error G and a release.
abbrev gives_up : LineTold
gives_up = record nothing { notes = Error Call 0 G ∷ ReleaseIndication Call 0 ∷ [] }

rings_no_more : heard_in (rounds 1 (doing_all (near_expires Call 0) (doing_all rings_on begins))).near ≡ gives_up ∷ []
unfolding lines.after lines.answer lines.takes_slot exchanged read_by reading header_of control_of unnumbered_of supervisory_of teis.course teis.refusal seq distance_of named doing_all rounds
rings_no_more = refl

-- An I-frame is lost, and each enquiry.
abbrev asks_on : List StepAt
asks_on =
    establishes ++ at_near (requests (Data Call 0 (1 ∷ []))) ∷ is_lost ++ expiring ++ is_lost ++ expiring ++ is_lost ++ expiring ++ is_lost
    ++ expiring ++ is_lost

asks_still : IsStill (doing_all asks_on begins)
unfolding lines.after lines.answer lines.takes_slot exchanged read_by reading header_of control_of unnumbered_of supervisory_of teis.course teis.refusal seq distance_of named doing_all
asks_still = record { near = refl; far = refl; near_way = refl; far_way = refl }

-- Then the expiry of T200 renews the establishment, and both ends are told so; what was lost does not arrive.
abbrev again : Wire
again = rounds 4 (with_t200_expired Call 0 (doing_all asks_on begins))

again_near : heard_in again.near ≡ confirmed Call 0 ∷ record nothing { notes = Error Call 0 I ∷ [] } ∷ indicated Call 0 ∷ []
unfolding lines.after lines.answer lines.takes_slot exchanged read_by reading header_of control_of unnumbered_of supervisory_of teis.course teis.refusal seq distance_of named doing_all rounds
again_near = refl

again_far : heard_in again.far ≡ indicated Call 0 ∷ error_f Call 0 ∷ []
unfolding lines.after lines.answer lines.takes_slot exchanged read_by reading header_of control_of unnumbered_of supervisory_of teis.course teis.refusal seq distance_of named doing_all rounds
again_far = refl

-- Where T200 is too short there are more moves. With k = 2 two contents are rejected, as the first is lost, and not sent again yet. Two
-- enquiries go, and the contents go behind the answer to the first; as that to the second comes, V(S) goes back behind them.
abbrev narrow_begins : Wire
narrow_begins = calling Call 0 (record user { k = 2 }) 0 (record network { k = 2 }) 0

abbrev is_rejected : List StepAt
is_rejected = at_near sends ∷ at_near loses ∷ at_near sends ∷ at_far receives ∷ at_far sends ∷ at_near receives ∷ []

abbrev asks_twice : List StepAt
asks_twice =
    at_near (expires (T203 Call 0)) ∷ at_near sends ∷ at_near (expires (T200 Call 0)) ∷ at_near sends
    ∷ at_far receives ∷ at_far sends ∷ at_near receives ∷ at_far receives ∷ at_far sends ∷ []

abbrev both_come : List StepAt
both_come = at_near sends ∷ at_far receives ∷ at_far sends ∷ at_near sends ∷ at_far receives ∷ at_far sends ∷ []

-- So RR is an error, the establishment is renewed, and both contents go again from number 0 on.
abbrev goes_back : List StepAt
goes_back =
    at_near (expires (T200 Call 0)) ∷ at_near sends ∷ at_near receives ∷ at_near receives ∷ at_near receives
    ∷ at_far receives ∷ at_far sends ∷ at_near receives ∷ establishes

abbrev comes_twice : List StepAt
comes_twice = is_rejected ++ asks_twice ++ both_come ++ goes_back

abbrev comes_often : List StepAt
comes_often =
    establishes ++ at_near (requests (Data Call 0 (1 ∷ []))) ∷ at_near (requests (Data Call 0 (2 ∷ [])))
    ∷ comes_twice ++ comes_twice ++ comes_twice ++ comes_twice ++ is_rejected ++ both_come ++ at_near receives ∷ at_near receives ∷ []

moves_of_short : moves comes_often narrow_begins ≡ 138
unfolding lines.after lines.answer lines.takes_slot exchanged read_by reading header_of control_of unnumbered_of supervisory_of teis.course teis.refusal seq distance_of named doing_all moves
moves_of_short = refl

bound_of_short : most_moves 2 comes_often narrow_begins ≡ 132
unfolding lines.after lines.answer lines.takes_slot exchanged read_by reading header_of control_of unnumbered_of supervisory_of teis.course teis.refusal seq distance_of named doing_all expiries reports
bound_of_short = refl
