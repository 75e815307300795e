-- Who owns what on a shelf that several owners share. An owner knows its own slots and their contents, as a list of
-- pairs; what the shelf holds is the lists of all owners, appended.
use Rattle.std.specs.Prelude.{◌≡◌, ℕ, List, ◌++◌, length, sum_by}
use Rattle.std.specs.List.{zip}
use Rattle.std.specs.List.Sorted.{IsPermutation}
use Rattle.std.specs.FinMap as map
use Rattle.lapd_store.specs.Store.{Store}

-- a slot, and the octets in it
abbrev pub Owned : Type 0
Owned = ℕ × List ℕ

-- The store holds exactly these contents in these slots: they are its entries, in any order. A map has a slot once, so
-- no slot stands twice among them.
pub record Holds (s : Store) (owned : List Owned) : Type 0 where
  pub entries : IsPermutation owned (map.entries s.contents)

-- the sum of the lengths of what is owned
abbrev pub owned_octets : List Owned → ℕ
owned_octets owned = sum_by (λ p. length p.1) owned

-- what a queue owns: each of its slots with the message in it
abbrev pub pairs_of : List ℕ → List (List ℕ) → List Owned
pairs_of slots messages = zip slots messages

-- The store keeps a queue's messages, the oldest first, each in the slot at its place, and what others own; and it
-- holds nothing else.
pub record Keeps (s : Store) (slots : List ℕ) (messages : List (List ℕ)) (others : List Owned) : Type 0 where
  pub lengths : length slots ≡ length messages
  pub held : Holds s (pairs_of slots messages ++ others)
