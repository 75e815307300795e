-- Hand-written answers for `what_is_told_was_heard`.
use Rattle.laws_trace.proofs.ObservedDeliveries.{deliveries-so}
use Rattle.laws_trace.proofs.laws.what_is_told_was_heard.Goals as goal

pub returns : goal.returns
returns c = λ config events number ranged all within. deliveries-so config events number ranged all within
