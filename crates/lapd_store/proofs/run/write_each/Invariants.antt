-- The invariants of the loops of `write_each`.
use Rattle.lapd_store.proofs.Vocabulary.{◌≡◌, ℕ, ◌+◌, ◌<◌, get_or, slice_get, None, SameOutside}
use Rattle.lapd_store.proofs.run.write_each.Given as goal

-- the first octets are there, and nothing else changed
abbrev pub invariant-loop-i : goal.invariant-loop-i
invariant-loop-i l = record {
  at : l.memory.at ≡ l.fn.memory.at;
  written : (k : ℕ) → k < l.i → get_or l.memory.written (l.from + k) None ≡ slice_get l.octets k;
  others : SameOutside l.fn.memory.written l.memory.written l.from l.i;
}
