-- The sum of what is left of each, the last first.
use Rattle.lapd_bits.proofs.Vocabulary.{◌+◌, arith}
use Rattle.lapd_bits.proofs.Division.Tables.{left-next, left-last}
use Rattle.lapd_bits.proofs.check.left_of_six.Goals as goal

pub returns : goal.returns
returns c =
    let octets = c.args.octets.now in
    let at = c.args.at in
    let within = c.requires in
    let one = left-last (at + 5) octets c.left_of-last.result (omega (arith, within)) c.left_of-last.ensures in
    let two = left-next 1 (at + 4) (at + 5) octets c.left_of-fifth.result _ (omega arith) (omega (arith, within)) c.left_of-fifth.ensures one in
    let three = left-next 2 (at + 3) (at + 4) octets c.left_of-fourth.result _ (omega arith) (omega (arith, within)) c.left_of-fourth.ensures two in
    let four = left-next 3 (at + 2) (at + 3) octets c.left_of-third.result _ (omega arith) (omega (arith, within)) c.left_of-third.ensures three in
    let five = left-next 4 (at + 1) (at + 2) octets c.left_of-second.result _ (omega arith) (omega (arith, within)) c.left_of-second.ensures four in
    left-next 5 at (at + 1) octets c.left_of-first.result _ (omega arith) (omega (arith, within)) c.left_of-first.ensures five
