-- Hand-written answers for `no_slot_is_lost`.
use Rattle.laws_trace.proofs.NoSlotIsLost.{no-slot-is-lost}
use Rattle.laws_trace.proofs.requests.no_slot_is_lost.Goals as goal

pub returns : goal.returns
returns c = λ config events number ranged all within. no-slot-is-lost config events number ranged all within
