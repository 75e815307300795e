-- Hand-written answers for `delivered_though_damaged`.
use Rattle.laws_order.proofs.OfCircuit.Damaged.{delivered-though-damaged}
use Rattle.laws_order.proofs.circuit.delivered_though_damaged.Goals as goal

pub returns : goal.returns
returns c = delivered-though-damaged
