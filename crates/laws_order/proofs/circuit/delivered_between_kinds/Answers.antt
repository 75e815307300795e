-- Hand-written answers for `delivered_between_kinds`.
use Rattle.laws_order.proofs.OfCircuit.Mixed.{delivered-between-kinds}
use Rattle.laws_order.proofs.circuit.delivered_between_kinds.Goals as goal

pub returns : goal.returns
returns c = delivered-between-kinds
