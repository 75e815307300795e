-- How a region of slots lies as a store. No public clause cites this file.
use Rattle.std.specs.Prelude.{◌≡◌, ◌≢◌, ℕ, ◌+◌, ◌*◌, ◌/◌, ◌%◌, ◌≤◌, ◌==◌, nat_lt, if◌then◌else◌, List, [], ◌∷◌, length, take, drop, get_or, Option, Some, None, ⊤}
use Rattle.std.specs.FinMap as finmap
use Rattle.std.specs.List.{filter_map}
use Rattle.lapd_store.specs.Region.{Holds}
use Rattle.slab.specs.Slab.{entries_from}
use Rattle.lapd_store.specs.Store.{Store, used_slots, stored_octets, IsWithinLimits}
use Rattle.lapd_store.specs.declared.raw_shelf.RawShelf.TheInside.{Inside}

-- what stands in the list of lengths for a free slot
abbrev pub free_mark : ℕ
free_mark = 65535

-- what stands for the next free slot after the last
abbrev pub list_end : ℕ
list_end = 65535

-- the number of a slot, or the end's past the last of so many
abbrev pub or_end : ℕ → ℕ → ℕ
or_end slot slots = if nat_lt slot slots then slot else list_end

-- the two octets in a free slot that name the next one, the low octet first
abbrev pub link : ℕ → List ℕ
link next = next % 256 ∷ next / 256 ∷ []

-- the octets that were written among so many from a place on
abbrev pub octets_at : List (Option ℕ) → ℕ → ℕ → List ℕ
octets_at region from len = filter_map (λ c. c) (take len (drop from region))

-- what lies in a slot, by what the list of lengths has for it
abbrev pub slot_contents : List (Option ℕ) → ℕ → ℕ → ℕ → Option (List ℕ)
slot_contents region width slot len = if len == free_mark then None else Some (octets_at region (slot * width) len)

-- the same for each slot from this one on
abbrev pub contents_from : List (Option ℕ) → ℕ → ℕ → List ℕ → List (Option (List ℕ))
contents_from region width slot [] = []
contents_from region width slot (len ∷ lens) = slot_contents region width slot len ∷ contents_from region width (slot + 1) lens

abbrev pub raw_store : Inside → Store
raw_store a = record {
  contents = finmap.from_entries (entries_from 0 (contents_from a.region a.width 0 a.lengths.items));
  slots = length a.lengths.items;
  width = a.width;
}

-- none of the others is this slot
abbrev pub IsApart : ℕ → List ℕ → Type 0
IsApart slot [] = ⊤
IsApart slot (other ∷ others) = (other ≢ slot) × IsApart slot others

module _ (region : List (Option ℕ)) (lengths : List ℕ) (width : ℕ) where
  -- these slots are free, each once, and each names the next
  abbrev pub IsFreeList : List ℕ → ℕ → Type 0
  IsFreeList [] first = first ≡ list_end
  IsFreeList (slot ∷ slots) first = (first ≡ slot) × (get_or lengths slot 0 ≡ free_mark) × IsApart slot slots
      × ((next : ℕ) × Holds region (slot * width) (link next) × IsFreeList slots next)

  -- the octets of a used slot are written
  pub record IsFilled (slot : ℕ) : Type 0 where
    pub octets : List ℕ
    pub long : length octets ≡ get_or lengths slot free_mark
    pub fits : length octets ≤ width
    pub holds : Holds region (slot * width) octets

-- Every slot is on the free list or has all its octets, and the counts are those of the store.
pub record IsSoundRaw (a : Inside) : Type 0 where
  pub free : List ℕ
  pub linked : IsFreeList a.region a.lengths.items a.width free a.first
  pub filled : (slot : ℕ) → get_or a.lengths.items slot free_mark ≢ free_mark → IsFilled a.region a.lengths.items a.width slot
  pub total : length free + a.used ≡ length a.lengths.items
  pub counted : a.used ≡ used_slots (raw_store a)
  pub measured : a.octets ≡ stored_octets (raw_store a)
  pub within : IsWithinLimits (raw_store a)
  pub covered : length a.region ≡ length a.lengths.items * a.width
  pub few : length a.lengths.items ≤ 8192
  pub least : 8 ≤ a.width
  pub most : a.width ≤ 260
