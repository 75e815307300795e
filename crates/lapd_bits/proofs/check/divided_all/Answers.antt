-- The preset stands for no octets.
use Rattle.lapd_bits.proofs.Vocabulary.{[]}
use Rattle.lapd_bits.proofs.Division.Holds.{HoldsDivision_preset}
use Rattle.lapd_bits.proofs.check.divided_all.Goals as goal

pub returns : goal.returns
returns c = c.divided_more.ensures [] HoldsDivision_preset
