-- The invariants of the loops of `+decimal`.
use Rattle.lapd_text.proofs.digits.+decimal.Given as goal

abbrev pub decreases-decimal : goal.decreases-decimal
decreases-decimal l = l.number
