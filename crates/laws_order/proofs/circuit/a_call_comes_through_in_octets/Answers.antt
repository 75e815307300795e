-- Hand-written answers for `a_call_comes_through_in_octets`.
use Rattle.laws_order.proofs.OfCircuit.Through.{calls-come-through-in-octets}
use Rattle.laws_order.proofs.circuit.a_call_comes_through_in_octets.Goals as goal

pub returns : goal.returns
returns c = calls-come-through-in-octets
