-- Hand-written answers for `a_call_ends`.
use Rattle.laws_wire.proofs.EndedRun.{calls-end}
use Rattle.laws_wire.proofs.answering.a_call_ends.Goals as goal

pub returns : goal.returns
returns c = calls-end
