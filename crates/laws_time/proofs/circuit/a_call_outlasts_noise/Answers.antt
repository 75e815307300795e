-- Hand-written answers for `a_call_outlasts_noise`.
use Rattle.laws_time.proofs.OfCircuit.InCallWalk.{n200-lasts-in-a-call}
use Rattle.laws_time.proofs.OfCircuit.InCallUp.{a-call-outlasts-noise}
use Rattle.laws_time.proofs.circuit.a_call_outlasts_noise.Goals as goal

pub returns-clause-bears : goal.returns-clause-bears
returns-clause-bears c = n200-lasts-in-a-call

pub returns-clause-through : goal.returns-clause-through
returns-clause-through c = a-call-outlasts-noise
