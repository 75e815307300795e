-- The invariants of the loops of `start_links`.
use Rattle.lapd_line.proofs.Vocabulary.{◌≡◌, vec_len, All, vec_capacity, IsBegun}
use Rattle.lapd_line.proofs.link_layer.start_links.Given as goal

abbrev pub invariant-loop : goal.invariant-loop
invariant-loop l = All (IsBegun l.config) l.links.items × (vec_len l.links ≡ l.counter) × (vec_capacity l.links ≡ l.count)
