-- Hand-written answers for `arrives_in_any_order`.
use Rattle.laws_link.proofs.Vocabulary.{doing_all}
use Rattle.laws_link.proofs.OfTwo.AnyOrderRuns.{all-turns, all-there}
use Rattle.laws_link.proofs.two.any_order.arrives_in_any_order.Goals as goal

pub returns-clause-bounded : goal.returns-clause-bounded
returns-clause-bounded c = λ ds e hn hm there back turns. (all-turns ds e hn hm there back turns).bounded

pub returns-clause-near : goal.returns-clause-near
returns-clause-near c = λ ds e hn hm there back turns still. (all-there ds e (doing_all ds e) (all-turns ds e hn hm there back turns) still).0

pub returns-clause-far : goal.returns-clause-far
returns-clause-far c = λ ds e hn hm there back turns still. (all-there ds e (doing_all ds e) (all-turns ds e hn hm there back turns) still).1
