-- The invariants of the loops of `listeners`.
use Rattle.lapd_sim.proofs.Vocabulary.{◌≡◌, [], vec_len, replicate, Each, Hears}
use Rattle.lapd_sim.proofs.parts.listeners.Given as goal

-- one for each line so far
abbrev pub invariant-loop : goal.invariant-loop
invariant-loop l = (vec_len l.listeners ≡ l.counter) × Each Hears l.listeners.items (replicate l.counter [])
