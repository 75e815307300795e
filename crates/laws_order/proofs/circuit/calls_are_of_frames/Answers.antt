-- Hand-written answers for `calls_are_of_frames`.
use Rattle.laws_order.proofs.OfCircuit.MixedCall.{calls-are-of-frames, calls-come-through-between-kinds}
use Rattle.laws_order.proofs.circuit.calls_are_of_frames.Goals as goal

pub returns-clause-frames : goal.returns-clause-frames
returns-clause-frames c = calls-are-of-frames

pub returns-clause-through : goal.returns-clause-through
returns-clause-through c = calls-come-through-between-kinds
