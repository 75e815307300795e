-- The invariants of the loops of `ports`.
use Rattle.lapd_card.proofs.Vocabulary.{◌≡◌, vec_len, AllByRecursion}
use Rattle.lapd_card.proofs.OctetsBegin.{IsFreshPort}
use Rattle.lapd_card.proofs.start.ports.Given as goal

-- so many ports, each as it begins
abbrev pub invariant-loop : goal.invariant-loop
invariant-loop l = record {
  count : vec_len l.ports ≡ l.counter;
  each : AllByRecursion (IsFreshPort l.config.n201) l.ports.items;
}
