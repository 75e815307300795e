-- What a contract sees of a shelf: a finite map from slots to message contents, of bounded size.
use Rattle.std.specs.Prelude.{◌≡◌, ℕ, ◌≤◌, List, length, sum_by, Option, None, IsSome, refl}
use Rattle.std.specs.List.{All}
use Rattle.std.specs.Ordering.{nat_cmp}
use Rattle.std.specs.Coded.{Coded, code_by, coded×, coded_list, coded_ℕ}
use Rattle.std.specs.FinMap as map

-- the octets in each slot that is in use, how many slots there are, and how many octets fit a slot
pub record Store : Type 0 where
  pub contents : map.FinMap nat_cmp (List ℕ)
  pub slots : ℕ
  pub width : ℕ

-- a store as the tuple of its fields
abbrev pub store_code : Coded Store
store_code =
    code_by
    (map.FinMap nat_cmp (List ℕ) × (ℕ × ℕ))
    (coded× (map.code coded_ℕ (coded_list coded_ℕ)) (coded× coded_ℕ coded_ℕ))
    (λ s. (s.contents, (s.slots, s.width)))
    (λ p. record { contents = p.0; slots = p.1.0; width = p.1.1 })
    (λ _. refl)

-- a store of so many slots of this width, each of them free
abbrev pub empty_store : ℕ → ℕ → Store
empty_store slots width = record { contents = map.empty; slots = slots; width = width }

-- what lies in a slot, `None` where the slot is free
abbrev pub contents_of : Store → ℕ → Option (List ℕ)
contents_of s slot = map.get s.contents slot

abbrev pub IsUsed : Store → ℕ → Type 0
IsUsed s slot = IsSome (contents_of s slot)

abbrev pub IsFree : Store → ℕ → Type 0
IsFree s slot = contents_of s slot ≡ None

-- how many slots are in use
abbrev pub used_slots : Store → ℕ
used_slots s = map.len s.contents

-- no slot is free
abbrev pub IsFull : Store → Type 0
IsFull s = used_slots s ≡ s.slots

-- the sum of the lengths of all contents
abbrev pub stored_octets : Store → ℕ
stored_octets s = sum_by length (map.values s.contents)

-- the store with these octets in the slot
abbrev pub with_contents : Store → ℕ → List ℕ → Store
with_contents s slot octets = record s { contents = map.insert s.contents slot octets }

-- the store with the slot free
abbrev pub without : Store → ℕ → Store
without s slot = record s { contents = map.remove s.contents slot }

-- no more slots are in use than there are, and no contents are longer than a slot is wide
pub record IsWithinLimits (s : Store) : Type 0 where
  pub count : used_slots s ≤ s.slots
  pub lengths : All (λ octets. length octets ≤ s.width) (map.values s.contents)

-- both stores have as many slots, of one width
pub record SameLimits (old new : Store) : Type 0 where
  pub slots : new.slots ≡ old.slots
  pub width : new.width ≡ old.width
