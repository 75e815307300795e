-- Hand-written answers for `answers_suit_events`.
use Rattle.laws_trace.proofs.AnswersSuit.{answers-suit}
use Rattle.laws_trace.proofs.requests.answers_suit_events.Goals as goal

pub returns : goal.returns
returns c = λ config events number ranged all within. answers-suit config events number ranged all within
