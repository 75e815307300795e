-- The bits are those above the latest four, and no bit is lost.
use Rattle.lapd_bits.proofs.Vocabulary.{◌≡◌, ◌<◌, ◌+◌, ◌*◌, ◌/◌, bit_and, ap, ◌∙◌, arith, mod-eq_of_lt}
use Rattle.lapd_bits.proofs.Fives.{fives-twos}
use Rattle.lapd_bits.proofs.stuffer.five_ones.Goals as goal

pub returns : goal.returns
returns c =
    let latest = c.args.latest in
    let bits = c.args.bits in
    let x = latest + bits * 16 in
    let small : bits * 16 < 18446744073709551616 = omega (arith, c.requires.few) in
    let high : bits ≡ x / 16 = omega (arith, c.requires.four) in
    ap (λ y. bit_and (bit_and (bit_and (latest + y) ((latest + y) / 2)) (bit_and (latest + y) ((latest + y) / 2) / 4)) bits) (mod-eq_of_lt small)
    ∙ ap (λ b. bit_and (bit_and (bit_and x (x / 2)) (bit_and x (x / 2) / 4)) b) high
    ∙ fives-twos x
