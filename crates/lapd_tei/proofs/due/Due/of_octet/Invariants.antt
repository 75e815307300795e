-- The invariant of the loop of `Due::of_octet`.
use Rattle.std.proofs.Common.{◌≡◌, ◌++◌, ◌-◌, length}
use Rattle.model_bits.specs.Bits.{low_bits}
use Rattle.lapd_tei.proofs.due.Due.of_octet.Given as goal

-- the bits so far, and those that are left
abbrev pub invariant-loop : goal.invariant-loop
invariant-loop l = record {
  count : length l.bits.items ≡ l.counter;
  bits : low_bits l.places l.octet ≡ l.bits.items ++ low_bits (l.places - l.counter) l.left;
}
