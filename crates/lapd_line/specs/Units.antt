-- Unit data that waits, as the code holds it: whose it is, and the slot of its contents.
use Rattle.std.specs.Prelude.{◌≡◌, ℕ, List, [], ◌∷◌, ◌++◌, map, drop}
use Rattle.lapd_store.specs.Ownership.{Owned, pairs_of}
use Rattle.model_line.specs.Line.{UnitData}
use Rattle.model_line.specs.Stored.{unit_contents}
use Rattle.lapd_line.specs.declared.units.QueuedUnit.{QueuedUnit}

-- the oldest first, and how many there may be
pub record UnitRing : Type 0 where
  pub waiting : List QueuedUnit
  pub capacity : ℕ

abbrev pub empty_ring : ℕ → UnitRing
empty_ring capacity = record { waiting = []; capacity = capacity }

abbrev pub with_newest : QueuedUnit → UnitRing → UnitRing
with_newest unit ring = record ring { waiting = ring.waiting ++ unit ∷ [] }

abbrev pub without_oldest : UnitRing → UnitRing
without_oldest ring = record ring { waiting = drop 1 ring.waiting }

-- Each is for the same terminals as that of the machine at its place.
abbrev pub AreFor : List QueuedUnit → List UnitData → Type 0
AreFor [] [] = Unit {0}
AreFor [] (d ∷ ds) = ⊥
AreFor (u ∷ us) [] = ⊥
AreFor (u ∷ us) (d ∷ ds) = (u.service ≡ d.service) × (u.tei ≡ d.tei) × AreFor us ds

-- Their slots, with the contents of those of the machine.
abbrev pub slot_of : QueuedUnit → ℕ
slot_of u = u.slot

abbrev pub slots_of : List QueuedUnit → List ℕ
slots_of units = map slot_of units

abbrev pub messages_of : List UnitData → List (List ℕ)
messages_of units = map unit_contents units

abbrev pub unit_pairs : List QueuedUnit → List UnitData → List Owned
unit_pairs units waiting = pairs_of (slots_of units) (messages_of waiting)
