-- Worked values of calls with losses, of how many moves there are, and that they come to rest. Each computes.
use Rattle.std.specs.Prelude.{◌≡◌, ◌≤◌, ◌*◌, true, false, List, [], ◌∷◌, ◌++◌, refl}
use Rattle.std.proofs.Common.{arith}
use Rattle.lapd_frame.specs.declared.services.Service.TheVariants.{Call}
use Rattle.lapd_frame.specs.Reading.{reading, header_of, control_of, unnumbered_of, supervisory_of}
use Rattle.lapd_frame.specs.Senders.{exchanged, reading as read_by}
use Rattle.lapd_seq.specs.Circle.{distance_of, named}
use Rattle.lapd_seq.specs.Numbers.{seq}
use Rattle.model_teis.specs.network.Events as teis
use Rattle.model_line.specs.Machine as lines
use Rattle.model_line.specs.Request.{Data, SetBusy, ClearBusy}
use Rattle.laws_wire.specs.Wire.{Wire, requests, sends, receives, loses, StepAt, at_near, at_far, doing_all, IsStill}
use Rattle.laws_wire.specs.Call.{confirmed, indicated, data_told}
use Rattle.laws_wire.specs.Losing.{heard_in}
use Rattle.laws_wire.specs.Recovering.{rounds, with_t200_expired}
use Rattle.laws_wire.specs.Resting.{moves, expiries, most_frames}
use Rattle.laws_wire.specs.Arriving.{runs_t200}
use Rattle.laws_wire.specs.Answering.{IsAtRest, uncalled, error_f, seen}
use Rattle.laws_wire.specs.Settling.{reports, most_moves, none_busy, busy, HasLeft, near_expires}
use Rattle.laws_wire.specs.WorkedAnswering.{loses_ua}
use Rattle.laws_wire.specs.Worked.{begins, establishes}

-- UA is lost, and SABME goes again. Then the far end is busy, drops an I-frame, and says so.
abbrev pub is_busy : List StepAt
is_busy =
    loses_ua ++ at_far (requests (SetBusy Call 0)) ∷ at_near (requests (Data Call 0 (1 ∷ []))) ∷ at_near sends ∷ at_far receives ∷ at_far sends ∷ at_near receives ∷ []

-- It is ready again, but this RR is lost.
abbrev pub is_ready : List StepAt
is_ready = is_busy ++ at_far (requests (ClearBusy Call 0)) ∷ at_far sends ∷ at_far loses ∷ []

abbrev pub ready : Wire
ready = doing_all is_ready begins

-- Fourteen moves; the bound is 78, with k = 7.
moves_of_ready : moves is_ready begins ≡ 14
unfolding lines.after lines.answer lines.takes_slot exchanged read_by reading header_of control_of unnumbered_of supervisory_of teis.course teis.refusal seq distance_of named doing_all moves
moves_of_ready = refl

reports_of_ready : reports is_ready begins ≡ 2
unfolding lines.after lines.answer lines.takes_slot exchanged read_by reading header_of control_of unnumbered_of supervisory_of teis.course teis.refusal seq distance_of named doing_all reports
reports_of_ready = refl

bound_of_ready : most_moves 7 is_ready begins ≡ 78
unfolding lines.after lines.answer lines.takes_slot exchanged read_by reading header_of control_of unnumbered_of supervisory_of teis.course teis.refusal seq distance_of named doing_all expiries reports
bound_of_ready = refl

pub ready_free : busy is_ready begins none_busy ≡ none_busy
unfolding lines.after lines.answer lines.takes_slot exchanged read_by reading header_of control_of unnumbered_of supervisory_of teis.course teis.refusal seq distance_of named doing_all busy
ready_free = refl

-- No turn is left, and T200 runs at the near end, as it takes the other for busy.
pub ready_still : IsStill ready
unfolding lines.after lines.answer lines.takes_slot exchanged read_by reading header_of control_of unnumbered_of supervisory_of teis.course teis.refusal seq distance_of named doing_all
ready_still = record { near = refl; far = refl; near_way = refl; far_way = refl }

pub ready_near : heard_in ready.near ≡ confirmed Call 0 ∷ []
unfolding lines.after lines.answer lines.takes_slot exchanged read_by reading header_of control_of unnumbered_of supervisory_of teis.course teis.refusal seq distance_of named doing_all
ready_near = refl

pub ready_far : heard_in ready.far ≡ indicated Call 0 ∷ error_f Call 0 ∷ []
unfolding lines.after lines.answer lines.takes_slot exchanged read_by reading header_of control_of unnumbered_of supervisory_of teis.course teis.refusal seq distance_of named doing_all
ready_far = refl

pub ready_seen : seen Call 0 is_ready begins uncalled ≡ record { told = indicated Call 0 ∷ error_f Call 0 ∷ []; sent = false; given_up = 0 }
unfolding lines.after lines.answer lines.takes_slot exchanged read_by reading header_of control_of unnumbered_of supervisory_of teis.course teis.refusal seq distance_of named doing_all seen
ready_seen = refl

pub ready_left : HasLeft Call 0 1 (record { told = indicated Call 0 ∷ error_f Call 0 ∷ []; sent = false; given_up = 0 }) ready
unfolding lines.after lines.answer lines.takes_slot exchanged read_by reading header_of control_of unnumbered_of supervisory_of teis.course teis.refusal seq distance_of named doing_all
ready_left = (omega arith, omega arith)

ready_runs : runs_t200 Call 0 ready.near ≡ true
unfolding lines.after lines.answer lines.takes_slot exchanged read_by reading header_of control_of unnumbered_of supervisory_of teis.course teis.refusal seq distance_of named doing_all
ready_runs = refl

-- One note is missing: once T200 expires four rounds are enough.
abbrev settled : Wire
settled = rounds 4 (with_t200_expired Call 0 ready)

settled_far : heard_in settled.far ≡ indicated Call 0 ∷ error_f Call 0 ∷ data_told Call 0 (1 ∷ []) ∷ []
unfolding lines.after lines.answer lines.takes_slot exchanged read_by reading header_of control_of unnumbered_of supervisory_of teis.course teis.refusal seq distance_of named doing_all rounds
settled_far = refl

settled_stops : (runs_t200 Call 0 settled.near ≡ false) × (runs_t200 Call 0 settled.far ≡ false)
unfolding lines.after lines.answer lines.takes_slot exchanged read_by reading header_of control_of unnumbered_of supervisory_of teis.course teis.refusal seq distance_of named doing_all rounds
settled_stops = (refl, refl)

-- Nothing is lost here, but the far end drops an I-frame while it is busy; RNR is heard, and RR. No turn is left, and neither
-- end is busy: the I-frame goes again only once T200 of the near end expires, which runs.
abbrev pub drops_one : List StepAt
drops_one =
    establishes ++ at_far (requests (SetBusy Call 0)) ∷ at_near (requests (Data Call 0 (1 ∷ []))) ∷ at_near sends ∷ at_far receives
    ∷ at_far sends ∷ at_near receives ∷ at_far (requests (ClearBusy Call 0)) ∷ at_far sends ∷ at_near receives ∷ []

abbrev pub over : Wire
over = doing_all drops_one begins

over_still : IsStill over
unfolding lines.after lines.answer lines.takes_slot exchanged read_by reading header_of control_of unnumbered_of supervisory_of teis.course teis.refusal seq distance_of named doing_all
over_still = record { near = refl; far = refl; near_way = refl; far_way = refl }

over_free : busy drops_one begins none_busy ≡ none_busy
unfolding lines.after lines.answer lines.takes_slot exchanged read_by reading header_of control_of unnumbered_of supervisory_of teis.course teis.refusal seq distance_of named doing_all busy
over_free = refl

over_granted : over.near.granted ≡ (1 ∷ []) ∷ []
unfolding lines.after lines.answer lines.takes_slot exchanged read_by reading header_of control_of unnumbered_of supervisory_of teis.course teis.refusal seq distance_of named doing_all
over_granted = refl

over_far : heard_in over.far ≡ indicated Call 0 ∷ []
unfolding lines.after lines.answer lines.takes_slot exchanged read_by reading header_of control_of unnumbered_of supervisory_of teis.course teis.refusal seq distance_of named doing_all
over_far = refl

over_runs : runs_t200 Call 0 over.near ≡ true
unfolding lines.after lines.answer lines.takes_slot exchanged read_by reading header_of control_of unnumbered_of supervisory_of teis.course teis.refusal seq distance_of named doing_all
over_runs = refl

-- While the far end is busy it is not so: T200 runs on.
busy_so : busy is_busy begins none_busy ≡ record { near = false; far = true }
unfolding lines.after lines.answer lines.takes_slot exchanged read_by reading header_of control_of unnumbered_of supervisory_of teis.course teis.refusal seq distance_of named doing_all busy
busy_so = refl

abbrev waits : Wire
waits = rounds 4 (with_t200_expired Call 0 (doing_all is_busy begins))

waits_still : IsStill waits
unfolding lines.after lines.answer lines.takes_slot exchanged read_by reading header_of control_of unnumbered_of supervisory_of teis.course teis.refusal seq distance_of named doing_all rounds
waits_still = record { near = refl; far = refl; near_way = refl; far_way = refl }

waits_runs : runs_t200 Call 0 waits.near ≡ true
unfolding lines.after lines.answer lines.takes_slot exchanged read_by reading header_of control_of unnumbered_of supervisory_of teis.course teis.refusal seq distance_of named doing_all rounds
waits_runs = refl

-- UA is lost: the end that calls was told nothing, and is told in one round, once its T200 expires.
abbrev pub ua_lost : List StepAt
ua_lost = at_near sends ∷ at_far receives ∷ at_far sends ∷ at_far loses ∷ []

pub lost_still : IsStill (doing_all ua_lost begins)
unfolding lines.after lines.answer lines.takes_slot exchanged read_by reading header_of control_of unnumbered_of supervisory_of teis.course teis.refusal seq distance_of named doing_all
lost_still = record { near = refl; far = refl; near_way = refl; far_way = refl }

pub lost_near : heard_in (doing_all ua_lost begins).near ≡ []
unfolding lines.after lines.answer lines.takes_slot exchanged read_by reading header_of control_of unnumbered_of supervisory_of teis.course teis.refusal seq distance_of named doing_all
lost_near = refl

told_again : heard_in (rounds 1 (doing_all (near_expires Call 0) (doing_all ua_lost begins))).near ≡ confirmed Call 0 ∷ []
unfolding lines.after lines.answer lines.takes_slot exchanged read_by reading header_of control_of unnumbered_of supervisory_of teis.course teis.refusal seq distance_of named doing_all rounds
told_again = refl

-- There no turn is left, and once T200 expires at both ends, which does nothing as it runs at neither, three rounds lead to rest.
abbrev rung : Wire
rung = rounds 1 (doing_all (near_expires Call 0) (doing_all ua_lost begins))

rung_still : IsStill rung
unfolding lines.after lines.answer lines.takes_slot exchanged read_by reading header_of control_of unnumbered_of supervisory_of teis.course teis.refusal seq distance_of named doing_all rounds
rung_still = record { near = refl; far = refl; near_way = refl; far_way = refl }

rung_rests : IsAtRest Call 0 (rounds 3 (with_t200_expired Call 0 rung))
unfolding lines.after lines.answer lines.takes_slot exchanged read_by reading header_of control_of unnumbered_of supervisory_of teis.course teis.refusal seq distance_of named doing_all rounds
rung_rests = (record { near = refl; far = refl; near_way = refl; far_way = refl }, refl, refl)

-- RNR and RR are to be counted: here they go nine times each, and are lost. Forty moves, and without them the bound would be 36.
abbrev asks_much : List StepAt
asks_much = at_far (requests (SetBusy Call 0)) ∷ at_far sends ∷ at_far loses ∷ at_far (requests (ClearBusy Call 0)) ∷ at_far sends ∷ at_far loses ∷ []

abbrev asks_always : List StepAt
asks_always = establishes ++ asks_much ++ asks_much ++ asks_much ++ asks_much ++ asks_much ++ asks_much ++ asks_much ++ asks_much ++ asks_much

moves_of_asks : moves asks_always begins ≡ 40
unfolding lines.after lines.answer lines.takes_slot exchanged read_by reading header_of control_of unnumbered_of supervisory_of teis.course teis.refusal seq distance_of named doing_all moves
moves_of_asks = refl

none_counted : 40 ≤ 2 * most_frames 7 0 0 → ⊥
none_counted less = omega (arith, less)
