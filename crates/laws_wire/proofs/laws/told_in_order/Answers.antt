-- Hand-written answers for `told_in_order`.
use Rattle.laws_wire.proofs.LossyRun.{calls-are-told_in_order}
use Rattle.laws_wire.proofs.laws.told_in_order.Goals as goal

pub returns : goal.returns
returns c = calls-are-told_in_order
