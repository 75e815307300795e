-- The octet is a flag, or one in which a flag ends.
use Rattle.lapd_bits.proofs.Vocabulary.{ap, sym, subst, ◌∙◌, ◌+◌, ◌*◌, arith, fives, IsFlagEnd}
use Rattle.lapd_bits.proofs.FlagEndTests.{flag-whole, flag-ended}
use Rattle.lapd_bits.proofs.flag_end.flag_end.Goals as goal

pub returns-then-ones-lt5 : goal.returns-then-ones-lt5
returns-then-ones-lt5 c = subst (λ o. IsFlagEnd c.args.ones o 7 126 0 0) (sym c.if-octet-eq-FLAG.true) (flag-whole c.args.ones c.if-ones-lt5.true)

pub invariant_of-result-2 : goal.invariant_of-result-2
invariant_of-result-2 c =
    let found =
    flag-ended c.args.ones c.in_ok-before.before c.args.octet c.leading_ones.result c.checked_sub.result c.checked_sub.ensures c.in_ok-before.was
    (omega arith) c.if-octet-upto.false
    (ap (λ n. fives (0 + n * 16)) (sym c.from.ensures) ∙ sym c.five_ones.ensures ∙ c.if-five_ones-ne0.false) c.leading_ones.ensures in
    record { at_most = found.at_most; below = found.below; below_behind = found.below_behind; few = found.few }

pub returns : goal.returns
returns c =
    let found =
    flag-ended c.args.ones c.in_ok-before.before c.args.octet c.leading_ones.result c.checked_sub.result c.checked_sub.ensures c.in_ok-before.was
    (omega arith) c.if-octet-upto.false
    (ap (λ n. fives (0 + n * 16)) (sym c.from.ensures) ∙ sym c.five_ones.ensures ∙ c.if-five_ones-ne0.false) c.leading_ones.ensures in
    found.flag
