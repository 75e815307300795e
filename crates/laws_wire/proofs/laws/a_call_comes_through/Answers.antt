-- Hand-written answers for `a_call_comes_through`.
use Rattle.laws_wire.proofs.Run.{calls-come-through}
use Rattle.laws_wire.proofs.laws.a_call_comes_through.Goals as goal

pub returns : goal.returns
returns c = calls-come-through
