-- The octets by twos, and then the last of an odd number.
use Rattle.lapd_bits.proofs.Vocabulary.{◌≡◌, ◌+◌, ◌*◌, ◌/◌, ◌-◌, ◌++◌, subst, length, take, get_or, arith, take_all, bits, low_bits, HoldsDivision}
use Rattle.lapd_bits.proofs.Division.Holds.{HoldsDivision-behind, bits-take_more}
use Rattle.lapd_bits.proofs.check.divided_more.Goals as goal

pub returns : goal.returns
returns c d holds =
    let octets = c.args.octets.now in
    let last = length octets - 1 in
    let twos : 2 * (length octets / 2) ≡ last = omega arith in
    let before = bits (take last octets) in
    subst (λ os. HoldsDivision c.divided.result (d ++ bits os)) (take_all (last + 1) octets (omega arith))
    (HoldsDivision-behind c.divided.result d before (low_bits 8 (get_or octets last 0)) (bits (take (last + 1) octets)) (bits-take_more last octets (omega arith))
    (c.divided.ensures (d ++ before)
    (subst (λ n. HoldsDivision c.divided_twos-after.result (d ++ bits (take n octets))) twos (c.divided_twos-after.ensures d holds))))
