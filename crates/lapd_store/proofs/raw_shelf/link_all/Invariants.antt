-- The invariants of the loops of `link_all`.
use Rattle.lapd_store.proofs.Vocabulary.{◌≡◌, ℕ, ◌+◌, ◌*◌, ◌<◌, length, Holds, link, or_end}
use Rattle.lapd_store.proofs.raw_shelf.link_all.Given as goal

-- each of the first slots names the next
abbrev pub invariant-loop-slot : goal.invariant-loop-slot
invariant-loop-slot l = record {
  linked : (slot : ℕ) → slot < l.slot → Holds l.region (slot * l.width) (link (or_end (slot + 1) l.slots));
  size : length l.region ≡ length l.fn.region;
}
