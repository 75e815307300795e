-- Hand-written answers for `above`.
use Rattle.lapd_bits.proofs.Vocabulary.{◌+◌, ◌<◌, ◌^◌, ap, sym, subst, ◌∙◌, arith, low_bits}
use Rattle.lapd_bits.proofs.Joining.{above_is, above_bits, above_below}
use Rattle.lapd_bits.proofs.gap.above.Goals as goal

pub returns-clause-bits : goal.returns-clause-bits
returns-clause-bits c =
    let a = c.args in
    ap (low_bits (a.place + a.count)) (above_is a.number a.place a.more c.requires.place c.requires.below (omega arith))
    ∙ above_bits a.number a.place a.more a.count c.requires.below

pub returns-clause-below : goal.returns-clause-below
returns-clause-below c =
    let a = c.args in
    subst (λ n. n < 2 ^ (a.place + a.count)) (sym (above_is a.number a.place a.more c.requires.place c.requires.below (omega arith)))
    (above_below a.number a.place a.more a.count c.requires.below c.requires.more)
