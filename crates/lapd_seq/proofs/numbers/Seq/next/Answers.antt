-- Hand-written answers for `Seq::next`.
use Rattle.lapd_seq.proofs.Vocabulary.{refl}
use Rattle.lapd_seq.proofs.Callers.{is_seq}
use Rattle.lapd_seq.proofs.Remainders.{seq-next}
use Rattle.lapd_seq.proofs.numbers.Seq.next.Goals as goal

pub returns-clause-circle : goal.returns-clause-circle
returns-clause-circle c = is_seq _ _ refl

pub returns-clause-plain : goal.returns-clause-plain
returns-clause-plain c = λ n e. seq-next c.args.self _ n e refl
