-- Worked values of expiries that N200 counts. Each computes.
use Rattle.std.specs.Prelude.{◌≡◌, List, [], ◌∷◌, ◌++◌, refl}
use Rattle.lapd_frame.specs.declared.notes.ErrorCode.TheVariants.{G, I}
use Rattle.lapd_frame.specs.declared.notes.Note.TheVariants.{Error, ReleaseIndication}
use Rattle.lapd_frame.specs.declared.readings.Reading.{Reading}
use Rattle.lapd_frame.specs.declared.readings.Reading.TheVariants.{Profile, AnnexB}
use Rattle.lapd_frame.specs.declared.services.Service.TheVariants.{Call}
use Rattle.lapd_frame.specs.declared.timers.Timer.TheVariants.{T200}
use Rattle.lapd_frame.specs.Reading.{reading, header_of, control_of, unnumbered_of, supervisory_of}
use Rattle.lapd_frame.specs.Senders.{exchanged, reading as read_by}
use Rattle.lapd_seq.specs.Circle.{distance_of, named}
use Rattle.lapd_seq.specs.Numbers.{seq}
use Rattle.model_teis.specs.network.Events as teis
use Rattle.model_line.specs.Event.{LineTold, nothing}
use Rattle.model_line.specs.Machine as lines
use Rattle.model_line.specs.Request.{Data, SetBusy}
use Rattle.laws_wire.specs.Wire.{Wire, requests, expires, sends, receives, loses, StepAt, at_near, at_far, doing_all, turns}
use Rattle.laws_wire.specs.Call.{calling, confirmed, indicated}
use Rattle.laws_wire.specs.Losing.{heard_in}
use Rattle.laws_wire.specs.Recovering.{round}
use Rattle.laws_wire.specs.Answering.{error_f}
use Rattle.laws_wire.specs.Worked.{begins, network, user}

-- N200 is 3. Each SABME is lost: three expiries repeat it, and the fourth, at a count of 3, tells error G, and that the
-- link is released.
abbrev pub is_lost : List StepAt
is_lost = at_near sends ∷ at_near loses ∷ at_near (expires (T200 Call 0)) ∷ []

abbrev pub given_up : LineTold
given_up = record nothing { notes = Error Call 0 G ∷ ReleaseIndication Call 0 ∷ [] }

heard_of_three : heard_in (doing_all (is_lost ++ is_lost ++ is_lost) begins).near ≡ []
unfolding lines.after lines.answer lines.takes_slot exchanged read_by reading header_of control_of unnumbered_of supervisory_of teis.course teis.refusal seq distance_of named doing_all turns
heard_of_three = refl

heard_of_four : heard_in (doing_all (is_lost ++ is_lost ++ is_lost ++ is_lost) begins).near ≡ given_up ∷ []
unfolding lines.after lines.answer lines.takes_slot exchanged read_by reading header_of control_of unnumbered_of supervisory_of teis.course teis.refusal seq distance_of named doing_all turns
heard_of_four = refl

-- Each UA is lost: three expiries bring SABME again, which is told as error F at the other end, and the fourth tells error G here.
abbrev pub ua_is_lost : List StepAt
ua_is_lost = at_near sends ∷ at_far receives ∷ at_far sends ∷ at_far loses ∷ at_near (expires (T200 Call 0)) ∷ []

ua_of_three : heard_in (doing_all (ua_is_lost ++ ua_is_lost ++ ua_is_lost) begins).near ≡ []
unfolding lines.after lines.answer lines.takes_slot exchanged read_by reading header_of control_of unnumbered_of supervisory_of teis.course teis.refusal seq distance_of named doing_all turns
ua_of_three = refl

ua_of_four : heard_in (doing_all (ua_is_lost ++ ua_is_lost ++ ua_is_lost ++ ua_is_lost) begins).near ≡ given_up ∷ []
unfolding lines.after lines.answer lines.takes_slot exchanged read_by reading header_of control_of unnumbered_of supervisory_of teis.course teis.refusal seq distance_of named doing_all turns
ua_of_four = refl

sabme_of_four : heard_in (doing_all (ua_is_lost ++ ua_is_lost ++ ua_is_lost ++ ua_is_lost) begins).far ≡ indicated Call 0 ∷ error_f Call 0 ∷ error_f Call 0 ∷ error_f Call 0 ∷ []
unfolding lines.after lines.answer lines.takes_slot exchanged read_by reading header_of control_of unnumbered_of supervisory_of teis.course teis.refusal seq distance_of named doing_all turns
sabme_of_four = refl

-- While the far end is busy, and drops the I-frame, T200 expires on and on: each enquiry is answered by RNR, and the count begins anew.
abbrev pub drops_one : List StepAt
drops_one = round ++ at_far (requests (SetBusy Call 0)) ∷ at_near (requests (Data Call 0 (1 ∷ []))) ∷ at_near sends ∷ at_far receives ∷ round

abbrev pub is_answered : List StepAt
is_answered = at_near (expires (T200 Call 0)) ∷ round

busy_of_five : heard_in (doing_all (drops_one ++ is_answered ++ is_answered ++ is_answered ++ is_answered ++ is_answered) begins).near ≡ confirmed Call 0 ∷ []
unfolding lines.after lines.answer lines.takes_slot exchanged read_by reading header_of control_of unnumbered_of supervisory_of teis.course teis.refusal seq distance_of named doing_all turns
busy_of_five = refl

-- The near end by annex B. An I-frame is lost, and T200 expires in state 7; three enquiries go in all, none of which comes, and the fourth
-- expiry tells error I. In the profile four enquiries go.
abbrev pub begins_by : Reading → Wire
begins_by reading = calling Call 0 (record user { reading = reading }) 0 network 0

abbrev unanswered : LineTold
unanswered = record nothing { notes = Error Call 0 I ∷ [] }

abbrev pub i_frame_is_lost : List StepAt
i_frame_is_lost = round ++ at_near (requests (Data Call 0 (1 ∷ []))) ∷ at_near sends ∷ at_near loses ∷ []

abbrev pub asks_in_vain : List StepAt
asks_in_vain = at_near (expires (T200 Call 0)) ∷ at_near sends ∷ at_near loses ∷ []

asks_three : heard_in (doing_all (i_frame_is_lost ++ asks_in_vain ++ asks_in_vain ++ asks_in_vain) (begins_by AnnexB)).near ≡ confirmed Call 0 ∷ []
unfolding lines.after lines.answer lines.takes_slot exchanged read_by reading header_of control_of unnumbered_of supervisory_of teis.course teis.refusal seq distance_of named doing_all turns
asks_three = refl

gives_up_then : heard_in (doing_all (i_frame_is_lost ++ asks_in_vain ++ asks_in_vain ++ asks_in_vain ++ asks_in_vain) (begins_by AnnexB)).near ≡ confirmed Call 0 ∷ unanswered ∷ []
unfolding lines.after lines.answer lines.takes_slot exchanged read_by reading header_of control_of unnumbered_of supervisory_of teis.course teis.refusal seq distance_of named doing_all turns
gives_up_then = refl

asks_four : heard_in (doing_all (i_frame_is_lost ++ asks_in_vain ++ asks_in_vain ++ asks_in_vain ++ asks_in_vain) (begins_by Profile)).near ≡ confirmed Call 0 ∷ []
unfolding lines.after lines.answer lines.takes_slot exchanged read_by reading header_of control_of unnumbered_of supervisory_of teis.course teis.refusal seq distance_of named doing_all turns
asks_four = refl
