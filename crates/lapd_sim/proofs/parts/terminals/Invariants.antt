-- The invariants of the loops of `terminals`.
use Rattle.lapd_sim.proofs.Vocabulary.{◌≡◌, [], vec_len, replicate, Each, Sends}
use Rattle.lapd_sim.proofs.parts.terminals.Given as goal

-- one for each line so far
abbrev pub invariant-loop : goal.invariant-loop
invariant-loop l =
    (vec_len l.terminals ≡ l.counter)
    × Each Sends l.terminals.items (replicate l.counter (record { items = []; given = 0 }))
