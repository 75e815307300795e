-- The words with which the proofs of this crate speak, from where they are defined.
pub use Rattle.std.proofs.Common.{Bool, IsSome, List, None, Option, Some, T, [], ap, append_assoc, arith, cond, drop, eqb, ext_get_or, false, get_or, get_or-drop, get_or-take, inl, inr, length, length-append, length-drop, length-set, length-take, lit<, map, refl, replicate, set, slice_get, subst, suc, sym, take, take-append-drop, true, w64, w8, zero, ℕ, ◌*◌, ◌++◌, ◌+◌, ◌-◌, ◌<◌, ◌^◌, ◌∙◌, ◌∷◌}
pub use Rattle.std.proofs.Common.{◌≡◌, ◌≢◌, ◌≤◌, ◌⊎◌}
pub use Rattle.std.proofs.RcSteps.{first_Good}
pub use Rattle.std.proofs.ResultValues.{err_of, ok_of}
pub use Rattle.std.proofs.alloc.Calls.{Al, Answer-typed, Answered, Gives, Gives-Gives, Gives-goes, Goes-blank, Takes, Takes-gives, Takes-goes, answers, at_gives, at_takes, seen}
pub use Rattle.std.proofs.alloc.Shapes.{after, arm_body, head}
pub use Rattle.std.proofs.lemmas.Bool.{and_parts, cases_eq, cond-false, cond-true, eq-eqb, eqb-false, le-ltb, lt-ltb, ne_eqb}
pub use Rattle.std.proofs.lemmas.Bool.Decides.{leb_tells, nat_tests}
pub use Rattle.std.proofs.lemmas.Grind.{get_or_default_zero}
pub use Rattle.std.proofs.lemmas.List.{drop-drop, get_or-replicate, get_or-set_other, get_or-set_same, length-map, length-replicate, nil_from_length, set-get_or, set_split}
pub use Rattle.std.proofs.lemmas.List.Concat.{flat_map-append}
pub use Rattle.std.proofs.lemmas.List.Elements.{All-cons, All-contains, All-get_or, All-head, All-map, All-nil, All-set, All-tail, All-weaker, Contains-append_left, Contains-append_right, recursion_from_All}
pub use Rattle.std.proofs.lemmas.List.Sorted.{All-permutation, IsPermutation-append_comm, IsPermutation-append_left, IsPermutation-cons, IsPermutation-map, IsPermutation-middle, IsPermutation-refl, IsPermutation-sym, IsPermutation-trans, length_permutation}
pub use Rattle.std.proofs.lemmas.List.Sums.{sum_by-append, sum_by-cons, sum_by-le}
pub use Rattle.std.proofs.lemmas.Map.Entries.{sum_by_values_permutation}
pub use Rattle.std.proofs.lemmas.Map.Keys.{IsDistinct-IsPermutation, IsDistinct-cons, IsDistinct-from_apart, IsDistinct-head, IsDistinct-tail}
pub use Rattle.std.proofs.lemmas.Map.Made.{Contains-values_of}
pub use Rattle.std.proofs.lemmas.Option.{get_or_from_slice_get, none-some, same_Some, slice_get_within}
pub use Rattle.std.proofs.lemmas.Slice.Zip.{get_or-zip, length-zip, seconds-zip}
pub use Rattle.std.proofs.raw_atomic.Walks.{leaves, proved_at}
pub use Rattle.std.specs.Borrow.{full_share, u8}
pub use Rattle.std.specs.Cmp.{nat_cmp_total, unsigned_tied}
pub use Rattle.std.specs.FinMap.{get-empty}
pub use Rattle.std.specs.FinMap.Entries.{below_all, by_order, find, is_sorted, put}
pub use Rattle.std.specs.List.{All, AllByRecursion, Contains, IsDistinct, count_by, filter_map, flat_map, fold, remove, sum_by, zip}
pub use Rattle.std.specs.List.Sorted.{IsPermutation}
pub use Rattle.std.specs.Option.{is_some, option_map}
pub use Rattle.std.specs.Ordering.{eq_by_cmp, is_eq, is_lt, nat_cmp}
pub use Rattle.std.specs.Prelude.{Err, Ok}
pub use Rattle.std.specs.Vec.{with_item}
pub use Rattle.std.specs.declared.cmp.Ordering.TheVariants.{Equal, Greater, Less}
pub use Rattle.arrayvec.specs.ArrayVec.{ArrayVec}
pub use Rattle.lapd_store.specs.Memory.{block_of, lent, octet, octet_lent, octets, octets_lent, octets_own}
pub use Rattle.lapd_store.specs.Ownership.{Keeps, Owned, owned_octets, pairs_of}
pub use Rattle.lapd_store.specs.RawStore.{IsApart, IsFilled, IsFreeList, contents_from, free_mark, link, list_end, or_end, raw_store, slot_contents}
pub use Rattle.lapd_store.specs.Region.{Holds, SameOutside}
pub use Rattle.lapd_store.specs.SlabStore.{IsSoundSlab, filled, slab_store}
pub use Rattle.lapd_store.specs.SlotRing.{SlotRing, without_oldest_ones}
pub use Rattle.lapd_store.specs.Store.{IsFree, IsFull, IsUsed, IsWithinLimits, SameLimits, Store, contents_of, empty_store, stored_octets, used_slots, with_contents, without}
pub use Rattle.lapd_store.specs.contracts.octets.give_back.{clauses, ended}
pub use Rattle.lapd_store.specs.contracts.octets.give_back.Key.{name}
pub use Rattle.lapd_store.specs.declared.raw_shelf.RawShelf.TheInside.{Inside}
pub use Rattle.slab.specs.Slab.{ContainsKey, Slab, Updates, entries_from, get, slab_len}
