-- The register stands for the octets so far, behind what it stood for.
use Rattle.lapd_bits.proofs.Vocabulary.{◌*◌, ◌++◌, List, Bool, take, bits, HoldsDivision}
use Rattle.lapd_bits.proofs.check.divided_twos.Given as goal

abbrev pub invariant-loop-two : goal.invariant-loop-two
invariant-loop-two l =
    (d : List Bool) → HoldsDivision l.register d → HoldsDivision l.after (d ++ bits (take (2 * l.two) l.octets))
