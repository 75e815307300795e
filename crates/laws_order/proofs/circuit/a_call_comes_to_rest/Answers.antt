-- Hand-written answers for `a_call_comes_to_rest`.
use Rattle.laws_order.proofs.OfCircuit.Resting.{calls-come-to-rest}
use Rattle.laws_order.proofs.circuit.a_call_comes_to_rest.Goals as goal

pub returns : goal.returns
returns c = calls-come-to-rest
