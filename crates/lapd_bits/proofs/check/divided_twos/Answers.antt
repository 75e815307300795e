-- The octets in eights, and then two more.
use Rattle.lapd_bits.proofs.Vocabulary.{◌*◌, ◌+◌, ◌++◌, take, drop, bits}
use Rattle.lapd_bits.proofs.Division.Holds.{HoldsDivision-behind}
use Rattle.lapd_bits.proofs.Division.Tables.{bits-take_step}
use Rattle.lapd_bits.proofs.check.divided_twos.Goals as goal

pub loop-two-preserved : goal.loop-two-preserved
loop-two-preserved c d holds =
    let octets = c.args.octets.now in
    let two = c.loop-two.two in
    let before = bits (take (2 * two) octets) in
    HoldsDivision-behind c.divided_two-after.result d before (bits (take 2 (drop (2 * two) octets))) (bits (take (2 * (two + 1)) octets)) (bits-take_step 2 two octets)
    (c.divided_two-after.ensures (d ++ before) (c.loop-two.invariant d holds))
