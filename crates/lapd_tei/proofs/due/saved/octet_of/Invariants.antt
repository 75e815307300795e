-- The invariant of the loop of `octet_of`.
use Rattle.std.proofs.Common.{◌≡◌, take}
use Rattle.model_bits.specs.Bits.{number_of}
use Rattle.lapd_tei.proofs.due.saved.octet_of.Given as goal

abbrev pub invariant-loop-place : goal.invariant-loop-place
invariant-loop-place l = l.octet ≡ number_of (take l.place l.bits)
