-- Hand-written answers for `Seq::new`.
use Rattle.lapd_seq.proofs.Vocabulary.{arith}
use Rattle.lapd_seq.proofs.Callers.{is_seq}
use Rattle.lapd_seq.proofs.numbers.Seq.new.Goals as goal

pub returns-clause-number : goal.returns-clause-number
returns-clause-number c = is_seq _ c.args.value (omega arith)
