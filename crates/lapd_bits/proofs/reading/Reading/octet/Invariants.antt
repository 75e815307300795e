use Rattle.lapd_bits.proofs.ReadBack.{ReadSoFar}
use Rattle.lapd_bits.proofs.reading.Reading.octet.Given as goal

abbrev pub invariant-loop-place : goal.invariant-loop-place
invariant-loop-place l = ReadSoFar l.text l.fn.self l.self l.octet l.place
