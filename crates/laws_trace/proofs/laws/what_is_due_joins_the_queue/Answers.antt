-- Hand-written answers for `what_is_due_joins_the_queue`.
use Rattle.laws_trace.proofs.AnswersAreGiven.{answers-are-given}
use Rattle.laws_trace.proofs.laws.what_is_due_joins_the_queue.Goals as goal

pub returns : goal.returns
returns c = answers-are-given
