use Rattle.std.specs.Prelude.{length}
use Rattle.model_bits.specs.Bits.{octets_of}
use Rattle.lapd_bits.specs.Reading.{left_to_read}
use Rattle.lapd_bits.proofs.ReadBack.{WrittenSoFar}
use Rattle.lapd_bits.proofs.reading.Reading.octets.Given as goal

abbrev pub invariant-loop-place : goal.invariant-loop-place
invariant-loop-place l = WrittenSoFar (octets_of (left_to_read l.fn.self l.text)) l.text l.octets l.self l.place (length l.fn.octets)
