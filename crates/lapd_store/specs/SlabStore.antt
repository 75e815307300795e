-- How a slab of octet vectors lies as a store. No public clause cites this file.
use Rattle.std.specs.Prelude.{◌≡◌, ℕ, ◌^◌, ◌<◌, ◌≤◌, List, map}
use Rattle.std.specs.FinMap as finmap
use Rattle.slab.specs.Slab.{Slab, entries, slab_len}
use Rattle.arrayvec.specs.ArrayVec.{ArrayVec}
use Rattle.lapd_store.specs.Store.{Store, used_slots, stored_octets, IsWithinLimits}
use Rattle.lapd_store.specs.Ownership.{Owned}
use Rattle.lapd_store.specs.declared.slab_shelf.SlabShelf.TheInside.{Inside}

-- each key of the slab with the octets under it
abbrev pub filled : Slab (ArrayVec ℕ) → List Owned
filled slab = map (λ e. (e.0, e.1.items)) (entries slab)

abbrev pub slab_store : Inside → Store
slab_store a = record { contents = finmap.from_entries (filled a.contents); slots = a.slots; width = a.width }

-- The slab has room for every slot's value, its count of values and the count of octets are those of the store, the
-- store is within its limits, and the limits are within what a count and a vector can hold.
pub record IsSoundSlab (a : Inside) : Type 0 where
  pub room : a.slots ≤ a.contents.capacity
  pub counted : slab_len a.contents ≡ used_slots (slab_store a)
  pub measured : a.octets ≡ stored_octets (slab_store a)
  pub within : IsWithinLimits (slab_store a)
  pub few : a.slots < 2 ^ 32
  pub narrow : a.width ≤ 260
