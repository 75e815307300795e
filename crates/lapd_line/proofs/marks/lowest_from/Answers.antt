-- Hand-written answers for `lowest_from`.
use Rattle.lapd_line.proofs.Vocabulary.{arith, bit_at_above}
use Rattle.lapd_line.proofs.MarkBits.{none_from, lowest_from, low_bit}
use Rattle.lapd_line.proofs.marks.lowest_from.Goals as goal

pub returns-then-from-ge64-clause-lowest : goal.returns-then-from-ge64-clause-lowest
returns-then-from-ge64-clause-lowest c = λ other low. bit_at_above c.args.bits 64 other (omega arith) (omega (arith, low, c.if-from-ge64.true))

pub returns-then-rest-eq0-clause-lowest : goal.returns-then-rest-eq0-clause-lowest
returns-then-rest-eq0-clause-lowest c = none_from c.args.bits c.args.from c.if-rest-eq0.true

pub returns-clause-lowest : goal.returns-clause-lowest
returns-clause-lowest c = lowest_from c.args.bits c.args.from c.if-rest-eq0.false (omega arith)

pub returns-clause-few : goal.returns-clause-few
returns-clause-few c =
    let (from, one, others) = lowest_from c.args.bits c.args.from c.if-rest-eq0.false (omega arith) in
    low_bit c.args.bits _ (omega arith) one
