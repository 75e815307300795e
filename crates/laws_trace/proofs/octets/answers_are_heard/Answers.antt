-- Hand-written answers for `answers_are_heard`.
use Rattle.laws_trace.proofs.OfOctets.AnswersAreHeard.{waiting-is-heard}
use Rattle.laws_trace.proofs.octets.answers_are_heard.Goals as goal

pub returns : goal.returns
returns c = waiting-is-heard
