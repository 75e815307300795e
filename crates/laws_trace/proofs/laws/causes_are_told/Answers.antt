-- Hand-written answers for `causes_are_told`.
use Rattle.laws_trace.proofs.CausesAreTold.{causes-are-told}
use Rattle.laws_trace.proofs.laws.causes_are_told.Goals as goal

pub returns : goal.returns
returns c = λ config events number ranged all within. causes-are-told config events number ranged all within
