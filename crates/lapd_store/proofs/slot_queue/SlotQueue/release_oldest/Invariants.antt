-- The invariants of the loops of `SlotQueue::release_oldest`.
use Rattle.lapd_store.proofs.Vocabulary.{◌≡◌, ℕ, List, drop, Owned, Keeps, without_oldest_ones, SameLimits}
use Rattle.lapd_store.proofs.slot_queue.SlotQueue.release_oldest.Given as goal

-- so many are gone, and the others are kept
abbrev pub invariant-loop-released : goal.invariant-loop-released
invariant-loop-released g l = record {
  kept : (messages : List (List ℕ)) (others : List Owned) → Keeps (g.S.Shelf.store l.fn.shelf) l.fn.self.slots messages others → Keeps (g.S.Shelf.store l.shelf) l.self.slots (drop l.released messages) others;
  slots : l.self ≡ without_oldest_ones l.released l.fn.self;
  limits : SameLimits (g.S.Shelf.store l.fn.shelf) (g.S.Shelf.store l.shelf);
}
