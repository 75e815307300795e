-- The invariants of the loops of `Entity::held`.
use Rattle.lapd_link_steps.proofs.Vocabulary.{◌≡◌, ◌*◌, ◌≤◌, take, sum_by, start_of}
use Rattle.lapd_link_steps.proofs.entity.Entity.held.Given as goal

abbrev pub invariant-loop-place : goal.invariant-loop-place
invariant-loop-place l =
    (l.octets ≡ sum_by (λ f. start_of f.control) (take l.place l.self.waiting.items)) × (l.octets ≤ 4 * l.place)
