-- A slab of octet vectors as a store.
use Rattle.lapd_store.proofs.Vocabulary.{◌≡◌, ℕ, ◌+◌, ◌-◌, ◌^◌, ◌<◌, ◌≤◌, Some, None, List, [], map, length, sym, ap, subst, ◌∙◌, arith, count_by, option_map, is_some, nat_cmp, nat_cmp_total, Slab, get, slab_len, entries_from, ContainsKey, Updates, ArrayVec, filled, slab_store, IsSoundSlab, empty_store, contents_of, IsUsed, IsFree, used_slots, stored_octets, with_contents, without, IsWithinLimits}
use Rattle.std.specs.FinMap as finmap
use Rattle.lapd_store.specs.declared.slab_shelf.SlabShelf.TheInside.{Inside}
use Rattle.lapd_store.proofs.StoreLemmas.{used_slots-empty, stored_octets-empty, IsWithinLimits-empty, used_slots-with_contents, stored_octets-with_contents, IsWithinLimits-with_contents, used_slots-without, stored_octets-without, IsWithinLimits-without, stored_octets_bound}
use Rattle.lapd_store.proofs.Entries.{find_from, find_changed, each_key, same_entries, get-insert_same, get-insert_other, get-remove_same, get-remove_other}

-- the store has under a key what the slab has
pub get-filled : (slab : Slab (ArrayVec ℕ)) (q : ℕ) → finmap.get (finmap.from_entries {R = nat_cmp} (filled slab)) q ≡ option_map (λ v. v.items) (get slab q)
get-filled slab q =
    finmap.get-from_entries nat_cmp_total (filled slab) q ∙ find_changed (λ v. v.items) q (entries_from 0 slab.slots) ∙ ap (option_map (λ v. v.items)) (find_from 0 q q slab.slots (omega arith))

-- an insert into the slab is one into the store
pub filled-insert : (old new : Slab (ArrayVec ℕ)) (key : ℕ) (v : ArrayVec ℕ) → Updates old new key (Some v) → finmap.from_entries {R = nat_cmp} (filled new) ≡ finmap.insert (finmap.from_entries (filled old)) key v.items
filled-insert old new key v updates = grind (arith, same_entries, each_key, get-filled, get-insert_same, get-insert_other)

-- and a removal likewise
pub filled-remove : (old new : Slab (ArrayVec ℕ)) (key : ℕ) → Updates old new key None → finmap.from_entries {R = nat_cmp} (filled new) ≡ finmap.remove (finmap.from_entries (filled old)) key
filled-remove old new key updates = grind (arith, same_entries, each_key, get-filled, get-remove_same, get-remove_other)

-- a slab that was just made is an empty store
pub slab_store-start : (slab : Slab (ArrayVec ℕ)) (slots width : ℕ) → slab.slots ≡ [] → slab_store (record { contents = slab; octets = 0; slots = slots; width = width }) ≡ empty_store slots width
slab_store-start slab slots width empty i = record { contents = finmap.from_entries (map (λ e. (e.0, e.1.items)) (entries_from 0 (empty i))); slots = slots; width = width }

pub IsSoundSlab-start : (slab : Slab (ArrayVec ℕ)) (slots width : ℕ) → slab.slots ≡ [] → slots ≤ slab.capacity → slots < 2 ^ 32 → width ≤ 260 → IsSoundSlab (record { contents = slab; octets = 0; slots = slots; width = width })
IsSoundSlab-start slab slots width empty room few narrow =
    let is = slab_store-start slab slots width empty in
    record {
      room = room;
      counted = ap (count_by is_some) empty ∙ sym (ap used_slots is ∙ used_slots-empty slots width);
      measured = sym (ap stored_octets is ∙ stored_octets-empty slots width);
      within = subst IsWithinLimits (sym is) (IsWithinLimits-empty slots width);
      few = few;
      narrow = narrow;
    }

module _ (a : Inside) (sound : IsSoundSlab a) where
  -- a slot of the store is a key of the slab
  pub contents_of-slab : (slot : ℕ) → contents_of (slab_store a) slot ≡ option_map (λ v. v.items) (get a.contents slot)
  contents_of-slab slot = get-filled a.contents slot

  pub ContainsKey-slab : (slot : ℕ) → IsUsed (slab_store a) slot → ContainsKey a.contents slot
  ContainsKey-slab slot used = grind (arith, contents_of-slab)

  -- the octets with those of one message more are no more than a count of 64 bits can hold
  pub octets_fit : (more : ℕ) → more ≤ 260 → a.octets + more < 2 ^ 64
  octets_fit more fits =
      let bound = stored_octets_bound (slab_store a) 260 sound.narrow sound.within in
      omega (arith, bound, sound.measured, sound.within.count, sound.few)

  module _ (slab : Slab (ArrayVec ℕ)) (key : ℕ) (octets : List ℕ) where
    -- a put
    pub slab_store-put : Updates a.contents slab key (Some (record { items = octets })) → slab_store (record { contents = slab; octets = a.octets + length octets; slots = a.slots; width = a.width }) ≡ with_contents (slab_store a) key octets
    slab_store-put updates i = record { contents = filled-insert a.contents slab key (record { items = octets }) updates i; slots = a.slots; width = a.width }

    pub IsFree-slab : get a.contents key ≡ None → IsFree (slab_store a) key
    IsFree-slab vacant = contents_of-slab key ∙ ap (option_map (λ v. v.items)) vacant

    pub IsSoundSlab-put : used_slots (slab_store a) < a.slots → length octets ≤ a.width → get a.contents key ≡ None → Updates a.contents slab key (Some (record { items = octets })) → slab_len slab ≡ slab_len a.contents + 1 → slab.capacity ≡ a.contents.capacity → IsSoundSlab (record { contents = slab; octets = a.octets + length octets; slots = a.slots; width = a.width })
    IsSoundSlab-put room fits vacant updates longer capacity =
        let is = slab_store-put updates in
        let free = IsFree-slab vacant in
        record {
          room = omega (arith, sound.room, capacity);
          counted = longer ∙ ap (λ n. n + 1) sound.counted ∙ sym (ap used_slots is ∙ used_slots-with_contents (slab_store a) key octets free);
          measured = ap (λ n. n + length octets) sound.measured ∙ sym (ap stored_octets is ∙ stored_octets-with_contents (slab_store a) key octets free);
          within = subst IsWithinLimits (sym is) (IsWithinLimits-with_contents (slab_store a) key octets free room fits sound.within);
          few = sound.few;
          narrow = sound.narrow;
        }

    -- a release
    pub slab_store-release : Updates a.contents slab key None → slab_store (record { contents = slab; octets = a.octets - length octets; slots = a.slots; width = a.width }) ≡ without (slab_store a) key
    slab_store-release updates i = record { contents = filled-remove a.contents slab key updates i; slots = a.slots; width = a.width }

    pub IsSoundSlab-release : contents_of (slab_store a) key ≡ Some octets → Updates a.contents slab key None → slab_len slab + 1 ≡ slab_len a.contents → slab.capacity ≡ a.contents.capacity → IsSoundSlab (record { contents = slab; octets = a.octets - length octets; slots = a.slots; width = a.width })
    IsSoundSlab-release held updates shorter capacity =
        let is = slab_store-release updates in
        let fewer = used_slots-without (slab_store a) key octets held in
        let less = stored_octets-without (slab_store a) key octets held in
        record {
          room = omega (arith, sound.room, capacity);
          counted = omega (arith, ap used_slots is, fewer, shorter, sound.counted);
          measured = omega (arith, ap stored_octets is, less, sound.measured);
          within = subst IsWithinLimits (sym is) (IsWithinLimits-without (slab_store a) key octets held sound.within);
          few = sound.few;
          narrow = sound.narrow;
        }
