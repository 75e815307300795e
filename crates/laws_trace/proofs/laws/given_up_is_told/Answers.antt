-- Hand-written answers for `given_up_is_told`.
use Rattle.laws_trace.proofs.GivenUpIsTold.{given-up-is-told}
use Rattle.laws_trace.proofs.laws.given_up_is_told.Goals as goal

pub returns : goal.returns
returns c = λ config events number ranged all within. given-up-is-told config events number ranged all within
