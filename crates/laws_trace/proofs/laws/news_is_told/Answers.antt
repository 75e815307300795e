-- Hand-written answers for `news_is_told`.
use Rattle.laws_trace.proofs.ObservedLaws.{news-is-told-so}
use Rattle.laws_trace.proofs.laws.news_is_told.Goals as goal

pub returns : goal.returns
returns c = λ config events number ranged all within. news-is-told-so config events number ranged all within
