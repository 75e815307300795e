-- The register stands for the octets so far, behind what it stood for.
use Rattle.lapd_bits.proofs.Vocabulary.{◌*◌, ◌++◌, List, Bool, take, bits, HoldsDivision}
use Rattle.lapd_bits.proofs.check.divided_eights.Given as goal

abbrev pub invariant-loop-eight : goal.invariant-loop-eight
invariant-loop-eight l =
    (d : List Bool) → HoldsDivision l.register d → HoldsDivision l.after (d ++ bits (take (8 * l.eight) l.octets))
