-- The invariants of the loops of `lines`.
use Rattle.lapd_card.proofs.Vocabulary.{◌≡◌, vec_len, AllByRecursion, IsFresh}
use Rattle.lapd_card.proofs.start.lines.Given as goal

-- so many lines, each as it begins
abbrev pub invariant-loop : goal.invariant-loop
invariant-loop l = record {
  count : vec_len l.lines ≡ l.counter;
  each : AllByRecursion (IsFresh l.config) l.lines.items;
}
