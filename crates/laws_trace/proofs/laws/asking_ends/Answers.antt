-- Hand-written answers for `asking_ends`.
use Rattle.laws_trace.proofs.AskingEnds.{asking-ends}
use Rattle.laws_trace.proofs.laws.asking_ends.Goals as goal

pub returns : goal.returns
returns c = λ config events number ranged all within. asking-ends config events number ranged all within
