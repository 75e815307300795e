-- Hand-written answers for `questions_are_answered`.
use Rattle.lapd_c.proofs.QuestionsAnswered.{questions_are_answered_by}
use Rattle.lapd_c.proofs.laws.questions_are_answered.Goals as goal

pub returns : goal.returns
returns c = questions_are_answered_by
