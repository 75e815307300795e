-- Hand-written answers for `answers_are_given`.
use Rattle.laws_trace.proofs.AnswersAreGiven.{waiting-is-given}
use Rattle.laws_trace.proofs.laws.answers_are_given.Goals as goal

pub returns : goal.returns
returns c = waiting-is-given
