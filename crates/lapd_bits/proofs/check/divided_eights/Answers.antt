-- No octets, and eight more.
use Rattle.lapd_bits.proofs.Vocabulary.{◌*◌, ◌+◌, ◌++◌, take, drop, bits}
use Rattle.lapd_bits.proofs.Division.Holds.{HoldsDivision-behind}
use Rattle.lapd_bits.proofs.Division.Tables.{bits-take_step}
use Rattle.lapd_bits.proofs.check.divided_eights.Goals as goal

pub loop-eight-preserved : goal.loop-eight-preserved
loop-eight-preserved c d holds =
    let octets = c.args.octets.now in
    let eight = c.loop-eight.eight in
    let before = bits (take (8 * eight) octets) in
    HoldsDivision-behind c.divided_eight-after.result d before (bits (take 8 (drop (8 * eight) octets))) (bits (take (8 * (eight + 1)) octets)) (bits-take_step 8 eight octets)
    (c.divided_eight-after.ensures (d ++ before) (c.loop-eight.invariant d holds))
