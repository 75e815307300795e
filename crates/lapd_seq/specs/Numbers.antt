-- Sequence numbers of plain numbers.
use Rattle.std.specs.Prelude.{ℕ, ◌%◌}
use Rattle.std.proofs.Common.{lit<}
use Rattle.std.proofs.lemmas.Nat.{mod_below}
use Rattle.lapd_seq.specs.declared.numbers.Seq.{Seq}

-- The sequence number of a plain number: its remainder by the modulus, which is 128 (Q.921 clause 3.5.2.1).
unfoldable pub seq : ℕ → Seq
seq n = record { value = n % 128; in_range = mod_below n 128 (lit< tt) }
