-- Hand-written answers for `contents_arrive`.
use Rattle.laws_link.proofs.OfTwo.Arriving.{all-arrived}
use Rattle.laws_link.proofs.two.laws.contents_arrive.Goals as goal

pub returns-clause-near : goal.returns-clause-near
returns-clause-near c = λ u e hn hm there back un um. (all-arrived u e hn hm there back un um).0

pub returns-clause-far : goal.returns-clause-far
returns-clause-far c = λ u e hn hm there back un um. (all-arrived u e hn hm there back un um).1
