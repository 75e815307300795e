-- Hand-written answers for `stay_up_while_ahead`.
use Rattle.laws_link.proofs.Vocabulary.{ends-agree}
use Rattle.laws_link.proofs.OfTwo.Together.{all-stay_up}
use Rattle.laws_link.proofs.two.laws.stay_up_while_ahead.Goals as goal

pub returns-clause-up : goal.returns-clause-up
returns-clause-up c = λ ds e b b' same x. all-stay_up ds e b b' same x

pub returns-clause-near : goal.returns-clause-near
returns-clause-near c = λ ds e b b' same x. (ends-agree ds e b b' (all-stay_up ds e b b' same x)).0

pub returns-clause-far : goal.returns-clause-far
returns-clause-far c = λ ds e b b' same x. (ends-agree ds e b b' (all-stay_up ds e b b' same x)).1
