-- Hand-written answers for `two_ends`.
use Rattle.model_link.proofs.Joined.{ends-agree}
use Rattle.model_link.proofs.laws.two_ends.Goals as goal

pub returns-clause-near : goal.returns-clause-near
returns-clause-near c = λ ds e b b' up. (ends-agree ds e b b' up).0

pub returns-clause-far : goal.returns-clause-far
returns-clause-far c = λ ds e b b' up. (ends-agree ds e b b' up).1
