-- The complement of the register over both is the check.
use Rattle.lapd_bits.proofs.Vocabulary.{◌++◌, subst, sym, arith, bits, HoldsDivision, bits-append}
use Rattle.lapd_bits.proofs.Division.Holds.{HoldsDivision_check}
use Rattle.lapd_bits.proofs.check.fcs_of_both.Goals as goal

pub returns : goal.returns
returns c =
    let head = c.args.head.now in
    let info = c.args.info.now in
    let both = subst (HoldsDivision c.divided_more.result) (sym (bits-append head info)) (c.divided_more.ensures (bits head) c.divided_all.ensures) in
    record { is_check = HoldsDivision_check c.divided_more.result (bits (head ++ info)) (omega arith) both }
