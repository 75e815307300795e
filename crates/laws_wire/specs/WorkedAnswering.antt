-- Worked values of a call whose UA is lost, and one of whose ends is busy. Each computes.
use Rattle.std.specs.Prelude.{◌≡◌, true, false, List, [], ◌∷◌, ◌++◌, refl}
use Rattle.lapd_frame.specs.declared.services.Service.TheVariants.{Call}
use Rattle.lapd_frame.specs.declared.timers.Timer.TheVariants.{T200, T203}
use Rattle.lapd_frame.specs.Reading.{reading, header_of, control_of, unnumbered_of, supervisory_of}
use Rattle.lapd_frame.specs.Senders.{exchanged, reading as read_by}
use Rattle.lapd_seq.specs.Circle.{distance_of, named}
use Rattle.lapd_seq.specs.Numbers.{seq}
use Rattle.model_teis.specs.network.Events as teis
use Rattle.model_line.specs.Machine as lines
use Rattle.model_line.specs.Request.{Data, SetBusy, ClearBusy}
use Rattle.laws_wire.specs.Wire.{Wire, requests, expires, sends, receives, loses, StepAt, at_near, at_far, doing_all, turns, IsStill}
use Rattle.laws_wire.specs.Call.{confirmed, indicated, data_told, IsBeginningOf}
use Rattle.laws_wire.specs.Losing.{heard_in}
use Rattle.laws_wire.specs.Recovering.{round}
use Rattle.laws_wire.specs.Arriving.{runs_t200}
use Rattle.laws_wire.specs.Answering.{uncalled, error_f, renewed, seen, all_of_calls}
use Rattle.laws_wire.specs.Worked.{begins}

-- UA is lost, T200 expires, and SABME goes again.
abbrev pub loses_ua : List StepAt
loses_ua = at_near sends ∷ at_far receives ∷ at_far sends ∷ at_far loses ∷ at_near (expires (T200 Call 0)) ∷ round

-- Then own busy begins at the far end, which drops an I-frame, and whose RNR is lost; it sends an I-frame itself, and is ready again.
abbrev pub is_busy : List StepAt
is_busy =
    at_far (requests (SetBusy Call 0)) ∷ at_near (requests (Data Call 0 (1 ∷ []))) ∷ at_near sends ∷ at_far receives ∷ at_far sends ∷ at_far loses
    ∷ at_far (requests (Data Call 0 (2 ∷ []))) ∷ at_far sends ∷ at_near receives ∷ at_far (requests (ClearBusy Call 0)) ∷ at_near (expires (T200 Call 0))
    ∷ (round ++ round ++ round)

abbrev pub repeated : Wire
repeated = doing_all (loses_ua ++ is_busy) begins

pub repeated_seen : seen Call 0 (loses_ua ++ is_busy) begins uncalled ≡ record { told = indicated Call 0 ∷ error_f Call 0 ∷ []; sent = true; given_up = 0 }
unfolding lines.after lines.answer lines.takes_slot exchanged read_by reading header_of control_of unnumbered_of supervisory_of teis.course teis.refusal seq distance_of named doing_all turns seen
repeated_seen = refl

repeated_near : heard_in repeated.near ≡ confirmed Call 0 ∷ data_told Call 0 (2 ∷ []) ∷ []
unfolding lines.after lines.answer lines.takes_slot exchanged read_by reading header_of control_of unnumbered_of supervisory_of teis.course teis.refusal seq distance_of named doing_all turns
repeated_near = refl

repeated_far : heard_in repeated.far ≡ indicated Call 0 ∷ error_f Call 0 ∷ data_told Call 0 (1 ∷ []) ∷ []
unfolding lines.after lines.answer lines.takes_slot exchanged read_by reading header_of control_of unnumbered_of supervisory_of teis.course teis.refusal seq distance_of named doing_all turns
repeated_far = refl

pub repeated_still : IsStill repeated
unfolding lines.after lines.answer lines.takes_slot exchanged read_by reading header_of control_of unnumbered_of supervisory_of teis.course teis.refusal seq distance_of named doing_all turns
repeated_still = record { near = refl; far = refl; near_way = refl; far_way = refl }

pub repeated_rests : (runs_t200 Call 0 repeated.near ≡ false) × (runs_t200 Call 0 repeated.far ≡ false)
unfolding lines.after lines.answer lines.takes_slot exchanged read_by reading header_of control_of unnumbered_of supervisory_of teis.course teis.refusal seq distance_of named doing_all turns
repeated_rests = (refl, refl)

-- While the far end is busy, what it dropped is not told, though no turn is left: T200 runs at the near end.
abbrev stays_busy : List StepAt
stays_busy =
    loses_ua ++ at_far (requests (SetBusy Call 0)) ∷ at_near (requests (Data Call 0 (1 ∷ []))) ∷ at_near sends ∷ at_far receives ∷ round

abbrev waits : Wire
waits = doing_all stays_busy begins

waits_far : heard_in waits.far ≡ indicated Call 0 ∷ error_f Call 0 ∷ []
unfolding lines.after lines.answer lines.takes_slot exchanged read_by reading header_of control_of unnumbered_of supervisory_of teis.course teis.refusal seq distance_of named doing_all turns
waits_far = refl

waits_still : IsStill waits
unfolding lines.after lines.answer lines.takes_slot exchanged read_by reading header_of control_of unnumbered_of supervisory_of teis.course teis.refusal seq distance_of named doing_all turns
waits_still = record { near = refl; far = refl; near_way = refl; far_way = refl }

waits_runs : runs_t200 Call 0 waits.near ≡ true
unfolding lines.after lines.answer lines.takes_slot exchanged read_by reading header_of control_of unnumbered_of supervisory_of teis.course teis.refusal seq distance_of named doing_all turns
waits_runs = refl

-- Where the end that was called is granted data before, its I-frame goes behind the UA that is lost, and as SABME comes again its contents
-- are given up: it is told a second establishment, and the other is told nothing of them, though no turn is left and T200 runs nowhere.
abbrev pub grants_early : List StepAt
grants_early =
    at_near sends ∷ at_far receives ∷ at_far (requests (Data Call 0 (2 ∷ []))) ∷ at_far sends ∷ at_far sends ∷ at_far loses ∷ at_near receives
    ∷ at_near (expires (T200 Call 0)) ∷ round

abbrev pub dropped : Wire
dropped = doing_all grants_early begins

pub dropped_seen : seen Call 0 grants_early begins uncalled ≡ record { told = indicated Call 0 ∷ renewed Call 0 ∷ []; sent = false; given_up = 1 }
unfolding lines.after lines.answer lines.takes_slot exchanged read_by reading header_of control_of unnumbered_of supervisory_of teis.course teis.refusal seq distance_of named doing_all turns seen
dropped_seen = refl

dropped_granted : dropped.far.granted ≡ (2 ∷ []) ∷ []
unfolding lines.after lines.answer lines.takes_slot exchanged read_by reading header_of control_of unnumbered_of supervisory_of teis.course teis.refusal seq distance_of named doing_all turns
dropped_granted = refl

dropped_near : heard_in dropped.near ≡ confirmed Call 0 ∷ []
unfolding lines.after lines.answer lines.takes_slot exchanged read_by reading header_of control_of unnumbered_of supervisory_of teis.course teis.refusal seq distance_of named doing_all turns
dropped_near = refl

dropped_far : heard_in dropped.far ≡ indicated Call 0 ∷ renewed Call 0 ∷ []
unfolding lines.after lines.answer lines.takes_slot exchanged read_by reading header_of control_of unnumbered_of supervisory_of teis.course teis.refusal seq distance_of named doing_all turns
dropped_far = refl

pub dropped_still : IsStill dropped
unfolding lines.after lines.answer lines.takes_slot exchanged read_by reading header_of control_of unnumbered_of supervisory_of teis.course teis.refusal seq distance_of named doing_all turns
dropped_still = record { near = refl; far = refl; near_way = refl; far_way = refl }

pub dropped_rests : (runs_t200 Call 0 dropped.near ≡ false) × (runs_t200 Call 0 dropped.far ≡ false)
unfolding lines.after lines.answer lines.takes_slot exchanged read_by reading header_of control_of unnumbered_of supervisory_of teis.course teis.refusal seq distance_of named doing_all turns
dropped_rests = (refl, refl)

-- But where it asks how far the other is, as T203 expires before, what it is granted then does not go, and stays: SABME is told as error F
-- alone, and all arrives.
abbrev pub asks_early : List StepAt
asks_early =
    at_near sends ∷ at_far receives ∷ at_far (expires (T203 Call 0)) ∷ at_far sends ∷ at_far sends ∷ at_far loses ∷ at_far (requests (Data Call 0 (2 ∷ []))) ∷ at_near receives ∷ []

abbrev pub rings_again : List StepAt
rings_again = at_near (expires (T200 Call 0)) ∷ (round ++ round ++ round)

abbrev pub kept : Wire
kept = doing_all (asks_early ++ rings_again) begins

pub kept_seen : seen Call 0 (asks_early ++ rings_again) begins uncalled ≡ record { told = indicated Call 0 ∷ error_f Call 0 ∷ []; sent = true; given_up = 0 }
unfolding lines.after lines.answer lines.takes_slot exchanged read_by reading header_of control_of unnumbered_of supervisory_of teis.course teis.refusal seq distance_of named doing_all turns seen
kept_seen = refl

kept_near : heard_in kept.near ≡ confirmed Call 0 ∷ data_told Call 0 (2 ∷ []) ∷ []
unfolding lines.after lines.answer lines.takes_slot exchanged read_by reading header_of control_of unnumbered_of supervisory_of teis.course teis.refusal seq distance_of named doing_all turns
kept_near = refl

kept_far : heard_in kept.far ≡ indicated Call 0 ∷ error_f Call 0 ∷ []
unfolding lines.after lines.answer lines.takes_slot exchanged read_by reading header_of control_of unnumbered_of supervisory_of teis.course teis.refusal seq distance_of named doing_all turns
kept_far = refl

pub kept_still : IsStill kept
unfolding lines.after lines.answer lines.takes_slot exchanged read_by reading header_of control_of unnumbered_of supervisory_of teis.course teis.refusal seq distance_of named doing_all turns
kept_still = record { near = refl; far = refl; near_way = refl; far_way = refl }

pub kept_rests : (runs_t200 Call 0 kept.near ≡ false) × (runs_t200 Call 0 kept.far ≡ false)
unfolding lines.after lines.answer lines.takes_slot exchanged read_by reading header_of control_of unnumbered_of supervisory_of teis.course teis.refusal seq distance_of named doing_all turns
kept_rests = (refl, refl)

-- Where T200 is too short, and expires while SABME is on its way, SABME goes again though nothing is lost. The second comes
-- as the near end has heard UA, and error F is told: what the far end is told is no beginning of what the law says.
abbrev repeats_early : List StepAt
repeats_early =
    at_near sends ∷ at_near (expires (T200 Call 0)) ∷ at_near sends ∷ at_far receives ∷ at_far sends ∷ at_near receives ∷ at_far receives ∷ []

abbrev twice : Wire
twice = doing_all repeats_early begins

twice_seen : seen Call 0 repeats_early begins uncalled ≡ record { told = indicated Call 0 ∷ []; sent = false; given_up = 0 }
unfolding lines.after lines.answer lines.takes_slot exchanged read_by reading header_of control_of unnumbered_of supervisory_of teis.course teis.refusal seq distance_of named doing_all turns seen
twice_seen = refl

twice_near : heard_in twice.near ≡ confirmed Call 0 ∷ []
unfolding lines.after lines.answer lines.takes_slot exchanged read_by reading header_of control_of unnumbered_of supervisory_of teis.course teis.refusal seq distance_of named doing_all turns
twice_near = refl

twice_far : heard_in twice.far ≡ indicated Call 0 ∷ error_f Call 0 ∷ []
unfolding lines.after lines.answer lines.takes_slot exchanged read_by reading header_of control_of unnumbered_of supervisory_of teis.course teis.refusal seq distance_of named doing_all turns
twice_far = refl

not_so_far : IsBeginningOf (all_of_calls Call 0 (seen Call 0 repeats_early begins uncalled) twice.near) (heard_in twice.far) → ⊥
unfolding lines.after lines.answer lines.takes_slot exchanged read_by reading header_of control_of unnumbered_of supervisory_of teis.course teis.refusal seq distance_of named doing_all turns seen
not_so_far x = cc x.1
