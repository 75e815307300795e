-- The premises of the laws are met: by the worked conversation, after which no turn is left, and by one that loses frames.
use Rattle.laws_wire.proofs.Vocabulary.{◌≡◌, false, List, [], ◌∷◌, refl, sym, subst, arith, All, list_any, All-nil, All-cons, Call, exchanged, reading, side_reading, header_of, control_of, unnumbered_of, supervisory_of, distance_of, named, seq, LineTold, StepAt, doing_all, turns, IsStill, CanCall, IsCall, confirmed, indicated, data_told, all_told, IsBeginningOf, IsRoughTalk, is_error, heard_in}
use Rattle.laws_wire.proofs.Vocabulary.{HasNoError, Face, user}
use Rattle.laws_wire.proofs.Vocabulary.{network, begins, talks, line_answer, line_takes_slot, line_after, tei_refusal, tei_course}
use Rattle.laws_wire.specs.WorkedLosing.{loses_two}
use Rattle.laws_wire.proofs.Delivering.{calls-face}
use Rattle.laws_wire.proofs.LossyRun.{calls-are-told_in_order}
use Rattle.model_line.specs.Config.{sapi_fault}

pub can : CanCall user 0 network 0 0
unfolding sapi_fault
can = record { near = (refl, omega arith); far = (refl, omega arith); opposite = (refl, refl); terminal = omega arith }

abbrev pub Are : (StepAt → Type 0) → List StepAt → Type 0
Are P [] = Unit {0}
Are P (d ∷ ds) = P d × Are P ds

pub all-of : (P : StepAt → Type 0) (ds : List StepAt) → Are P ds → All P ds
all-of P [] h = All-nil P
all-of P (d ∷ ds) h = All-cons P d ds h.0 (all-of P ds h.1)

pub talk : All (IsCall Call 0) talks
talk = grind (arith, all-of)

pub still : IsStill (doing_all talks begins)
unfolding line_after line_answer line_takes_slot exchanged reading side_reading header_of control_of unnumbered_of supervisory_of tei_course tei_refusal seq distance_of named doing_all turns
still = record { near = refl; far = refl; near_way = refl; far_way = refl }

-- so the two face each other
pub face : Face Call 0 (doing_all talks begins)
face = calls-face Call user network 0 0 0 talks can talk still

-- a call that loses two frames, and in which no error is told
pub rough : All (IsRoughTalk Call 0) loses_two
rough = grind (arith, all-of)

abbrev pub IsFair : LineTold → Type 0
IsFair t = list_any is_error t.notes ≡ false

told-near : (doing_all loses_two begins).near.told ≡ confirmed Call 0 ∷ []
unfolding line_after line_answer line_takes_slot exchanged reading side_reading header_of control_of unnumbered_of supervisory_of tei_course tei_refusal seq distance_of named doing_all turns
told-near = refl

told-far : (doing_all loses_two begins).far.told ≡ indicated Call 0 ∷ data_told Call 0 (0xAB ∷ []) ∷ []
unfolding line_after line_answer line_takes_slot exchanged reading side_reading header_of control_of unnumbered_of supervisory_of tei_course tei_refusal seq distance_of named doing_all turns
told-far = refl

pub fair-near : HasNoError (doing_all loses_two begins).near
fair-near = subst (All IsFair) (sym told-near) (All-cons IsFair (confirmed Call 0) [] refl (All-nil IsFair))

pub fair-far : HasNoError (doing_all loses_two begins).far
fair-far = grind (arith, told-far)

-- so the law says of it what was told
pub in-order : IsBeginningOf (all_told Call 0 (confirmed Call 0) (doing_all loses_two begins).far) (heard_in (doing_all loses_two begins).near)
    × IsBeginningOf (all_told Call 0 (indicated Call 0) (doing_all loses_two begins).near) (heard_in (doing_all loses_two begins).far)
in-order = calls-are-told_in_order Call user network 0 0 0 loses_two can rough fair-near fair-far
