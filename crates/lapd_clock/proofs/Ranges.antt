-- Lengths that were given are in range.
use Rattle.lapd_clock.proofs.Vocabulary.{arith, AreInRange, lengths_of}
use Rattle.lapd_clock.specs.declared.lengths.Lengths as rust

pub range_of : (l : rust.Lengths) → AreInRange (lengths_of l)
range_of l = grind arith
