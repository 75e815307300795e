-- Worked values of calls in which frames are lost, and of how many moves there are. Each computes.
use Rattle.std.specs.Prelude.{◌≡◌, ◌*◌, ◌≤◌, List, [], ◌∷◌, ◌++◌, refl}
use Rattle.std.proofs.Common.{arith}
use Rattle.lapd_frame.specs.declared.services.Service.TheVariants.{Call}
use Rattle.lapd_frame.specs.declared.timers.Timer.TheVariants.{T200}
use Rattle.lapd_frame.specs.Reading.{reading, header_of, control_of, unnumbered_of, supervisory_of}
use Rattle.lapd_frame.specs.Senders.{exchanged, reading as read_by}
use Rattle.lapd_seq.specs.Circle.{distance_of, named}
use Rattle.lapd_seq.specs.Numbers.{seq}
use Rattle.model_teis.specs.network.Events as teis
use Rattle.model_line.specs.Machine as lines
use Rattle.model_line.specs.Request.{Data}
use Rattle.laws_wire.specs.Wire.{requests, expires, sends, receives, loses, Wire, StepAt, at_near, at_far, doing_all, IsStill}
use Rattle.laws_wire.specs.Losing.{heard_in}
use Rattle.laws_wire.specs.Call.{indicated, data_told}
use Rattle.laws_wire.specs.Recovering.{rounds}
use Rattle.laws_wire.specs.Resting.{moves, expiries, most_frames}
use Rattle.laws_wire.specs.Worked.{begins, establishes}

-- The first of two I-frames is lost. The other is out of sequence: REJ goes, and both go again.
abbrev pub rejects_one : List StepAt
rejects_one =
    establishes ++ at_near (requests (Data Call 0 (0xAB ∷ []))) ∷ at_near (requests (Data Call 0 (0xCD ∷ []))) ∷ at_near sends ∷ at_near loses ∷ at_near sends ∷ at_far receives
    ∷ at_far sends ∷ at_near receives ∷ at_near sends ∷ at_near sends ∷ at_far receives ∷ at_far receives ∷ at_far sends ∷ at_near receives ∷ []

rejected_come : heard_in (doing_all rejects_one begins).far ≡ indicated Call 0 ∷ data_told Call 0 (0xAB ∷ []) ∷ data_told Call 0 (0xCD ∷ []) ∷ []
unfolding lines.after lines.answer lines.takes_slot exchanged read_by reading header_of control_of unnumbered_of supervisory_of teis.course teis.refusal seq distance_of named doing_all moves expiries
rejected_come = refl

-- Sixteen moves; the bound is 76, with k = 7.
moves_of_rejects : moves rejects_one begins ≡ 16
unfolding lines.after lines.answer lines.takes_slot exchanged read_by reading header_of control_of unnumbered_of supervisory_of teis.course teis.refusal seq distance_of named doing_all moves expiries
moves_of_rejects = refl

bound_of_rejects : 2 * most_frames 7 (expiries rejects_one) 2 ≡ 76
unfolding lines.after lines.answer lines.takes_slot exchanged read_by reading header_of control_of unnumbered_of supervisory_of teis.course teis.refusal seq distance_of named doing_all moves expiries
bound_of_rejects = refl

-- Three I-frames are lost, and lost again each time that T200 has expired and the other end was asked.
abbrev all_lost : List StepAt
all_lost = at_near sends ∷ at_near sends ∷ at_near sends ∷ at_near loses ∷ at_near loses ∷ at_near loses ∷ []

abbrev asks_again : List StepAt
asks_again = at_near (expires (T200 Call 0)) ∷ at_near sends ∷ at_far receives ∷ at_far sends ∷ at_near receives ∷ all_lost

abbrev pub loses_always : List StepAt
loses_always =
    establishes ++ at_near (requests (Data Call 0 (1 ∷ []))) ∷ at_near (requests (Data Call 0 (2 ∷ []))) ∷ at_near (requests (Data Call 0 (3 ∷ []))) ∷ all_lost
    ++ asks_again ++ asks_again ++ asks_again

-- Forty moves. So what goes again is to be counted: without it the bound would be 38.
moves_of_losses : moves loses_always begins ≡ 40
unfolding lines.after lines.answer lines.takes_slot exchanged read_by reading header_of control_of unnumbered_of supervisory_of teis.course teis.refusal seq distance_of named doing_all moves expiries
moves_of_losses = refl

expiries_of_losses : expiries loses_always ≡ 3
unfolding expiries
expiries_of_losses = refl

none_again : 40 ≤ 2 * most_frames 0 3 3 → ⊥
none_again less = omega (arith, less)

-- Two contents are accepted: two rounds later no turn is left.
abbrev pub two_accepted : Wire
two_accepted = doing_all (establishes ++ at_near (requests (Data Call 0 (1 ∷ []))) ∷ at_near (requests (Data Call 0 (2 ∷ []))) ∷ []) begins

rests : IsStill (rounds 2 two_accepted)
unfolding lines.after lines.answer lines.takes_slot exchanged read_by reading header_of control_of unnumbered_of supervisory_of teis.course teis.refusal seq distance_of named doing_all rounds
rests = record { near = refl; far = refl; near_way = refl; far_way = refl }
