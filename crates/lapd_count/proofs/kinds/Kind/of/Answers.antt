-- Hand-written answers for `Kind::of`.
use Rattle.lapd_count.proofs.Vocabulary.{arith, Information}
use Rattle.lapd_count.proofs.KindTable.{kind_at}
use Rattle.lapd_count.proofs.kinds.Kind.of.Goals as goal

pub returns : goal.returns
returns c = kind_at c.args.control Information (omega arith)
