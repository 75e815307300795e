-- What a contract sees of a queue of slots.
use Rattle.std.specs.Prelude.{ℕ, List, [], ◌∷◌, ◌++◌, drop}

-- the slots, the oldest first, and how many there may be
pub record SlotRing : Type 0 where
  pub slots : List ℕ
  pub capacity : ℕ

abbrev pub empty_ring : ℕ → SlotRing
empty_ring capacity = record { slots = []; capacity = capacity }

-- the ring with the slot as its newest
abbrev pub with_newest : SlotRing → ℕ → SlotRing
with_newest q slot = record q { slots = q.slots ++ slot ∷ [] }

-- the ring without so many of its oldest slots, or empty where it has fewer
abbrev pub without_oldest_ones : ℕ → SlotRing → SlotRing
without_oldest_ones count q = record q { slots = drop count q.slots }

-- the ring without its oldest slot, if it has one
abbrev pub without_oldest : SlotRing → SlotRing
without_oldest q = record q { slots = drop 1 q.slots }
