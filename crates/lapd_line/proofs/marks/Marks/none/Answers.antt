-- Hand-written answers for `Marks::none`.
use Rattle.lapd_line.proofs.Vocabulary.{bit_at-zero}
use Rattle.lapd_line.proofs.marks.Marks.none.Goals as goal

pub returns : goal.returns
returns c = λ number few. bit_at-zero number
