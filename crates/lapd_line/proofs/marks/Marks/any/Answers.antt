-- Hand-written answers for `Marks::any`.
use Rattle.lapd_line.proofs.Vocabulary.{arith}
use Rattle.lapd_line.proofs.MarkBits.{none_marked, some_marked}
use Rattle.lapd_line.proofs.marks.Marks.any.Goals as goal

pub returns-clause-none : goal.returns-clause-none
returns-clause-none c = none_marked c.args.self.now.bits

pub returns-clause-some : goal.returns-clause-some
returns-clause-some c = some_marked c.args.self.now.bits (omega arith)
