-- Hand-written answers for `losses_are_recovered`.
use Rattle.laws_link.proofs.OfTwo.Recovery.{all-recovered}
use Rattle.laws_link.proofs.OfTwo.Reached.{reached}
use Rattle.laws_link.proofs.two.laws.losses_are_recovered.Goals as goal

pub returns-clause-near : goal.returns-clause-near
returns-clause-near c = λ u e hn hm un um. (all-recovered u e hn hm un um).0

pub returns-clause-far : goal.returns-clause-far
returns-clause-far c = λ u e hn hm un um. (all-recovered u e hn hm un um).1

pub returns-clause-reached_near : goal.returns-clause-reached_near
returns-clause-reached_near c = λ ds u e b b' t t' same up s s' un um. (reached ds u e b b' t t' same up s s' un um).0

pub returns-clause-reached_far : goal.returns-clause-reached_far
returns-clause-reached_far c = λ ds u e b b' t t' same up s s' un um. (reached ds u e b b' t t' same up s s' un um).1
