-- Hand-written answers for `links_move`.
use Rattle.laws_trace.proofs.ObservedLaws.{links-move-so}
use Rattle.laws_trace.proofs.laws.links_move.Goals as goal

pub returns : goal.returns
returns c = λ config events number ranged all within. links-move-so config events number ranged all within
