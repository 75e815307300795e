-- The invariant of the loop of `note_all`.
use Rattle.std.proofs.Common.{◌≡◌, ℕ, ◌<◌, ◌≤◌, get_or, length}
use Rattle.std.specs.Prelude.{All}
use Rattle.model_timed.specs.Changes.{seen}
use Rattle.lapd_timed.specs.Marked.{mark_in}
use Rattle.lapd_timed.proofs.changes.Changes.note_all.Given as goal

-- the links below are noted so far, and the others are as they were
abbrev pub invariant-loop-number : goal.invariant-loop-number
invariant-loop-number l = record {
  links : l.self.links ≡ l.fn.self.links;
  count : length l.self.states ≡ length l.fn.self.states;
  moments : length l.self.moments ≡ length l.fn.self.moments;
  so_far : (more : ℕ) → more < l.number → more < l.fn.self.links → mark_in l.self l.line more ≡ seen l.now (get_or l.states more 0) (mark_in l.fn.self l.line more);
  past : All (λ moment. moment ≤ l.now) l.fn.self.moments → All (λ moment. moment ≤ l.now) l.self.moments;
  others : (other more : ℕ) → more < l.fn.self.links → (other ≡ l.line → more < l.number → ⊥) → mark_in l.self other more ≡ mark_in l.fn.self other more;
}
