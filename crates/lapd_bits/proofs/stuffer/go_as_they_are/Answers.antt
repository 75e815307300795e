-- No five 1s begin in the latest four bits and those of the four octets.
use Rattle.lapd_bits.proofs.Vocabulary.{◌+◌, ◌*◌, ◌/◌, ◌^◌, [], ap, sym, ◌∙◌, subst, arith, eqb-true, low_bits, Goes, last_ones, fives}
use Rattle.lapd_bits.proofs.Underway.{calm}
use Rattle.lapd_bits.proofs.stuffer.go_as_they_are.Goals as goal

pub returns : goal.returns
returns c none =
    let four = c.args.four in
    subst (λ y. Goes [] (last_ones c.args.latest) (low_bits 32 four) (low_bits 32 four) (last_ones y)) {x = (c.args.latest + four * 16) / 2 ^ 32} (omega (arith, c.requires))
    (calm c.args.latest four 32 c.requires (ap (λ y. fives (c.args.latest + y * 16)) (sym c.from.ensures) ∙ sym c.five_ones.ensures ∙ eqb-true c.five_ones.result 0 none))
