-- Hand-written answers for `delivered_in_order`.
use Rattle.laws_order.proofs.Ordered.{delivered-in-order}
use Rattle.laws_order.proofs.laws.delivered_in_order.Goals as goal

pub returns : goal.returns
returns c = delivered-in-order
