-- Hand-written answers for `teis_are_managed`.
use Rattle.laws_trace.proofs.TeisAreManaged.{teis-are-managed}
use Rattle.laws_trace.proofs.laws.teis_are_managed.Goals as goal

pub returns : goal.returns
returns c = λ config events number ranged all within. teis-are-managed config events number ranged all within
