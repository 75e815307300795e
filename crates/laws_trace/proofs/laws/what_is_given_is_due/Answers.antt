-- Hand-written answers for `what_is_given_is_due`.
use Rattle.laws_trace.proofs.FramesAreDue.{given-is-due, due-is-given}
use Rattle.laws_trace.proofs.laws.what_is_given_is_due.Goals as goal

pub returns-clause-due : goal.returns-clause-due
returns-clause-due c = λ config events number ranged all within. given-is-due config events number ranged all within

pub returns-clause-none : goal.returns-clause-none
returns-clause-none c = λ config events number ranged all within. due-is-given config events number ranged all within
