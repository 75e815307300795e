-- Hand-written answers for `a_call_with_losses_comes_through`.
use Rattle.laws_wire.proofs.UaTold.{lossy-calls-come-through}
use Rattle.laws_wire.proofs.answering.a_call_with_losses_comes_through.Goals as goal

pub returns : goal.returns
returns c = lossy-calls-come-through
