-- What a `put` and a `release` do to the contents, the counts and the limits of a store.
use Rattle.lapd_store.proofs.Vocabulary.{◌≡◌, ℕ, ◌+◌, ◌*◌, ◌<◌, ◌≤◌, Some, List, [], map, length, sym, ap, subst, ◌∙◌, arith, length-map, All-nil, All-cons, All-tail, All-contains, All-weaker, IsPermutation-map, IsPermutation-sym, All-permutation, length_permutation, sum_by-cons, sum_by-le, sum_by_values_permutation, Contains-values_of, All, sum_by, nat_cmp, Store, empty_store, contents_of}
use Rattle.lapd_store.proofs.Vocabulary.{IsFree, used_slots, stored_octets, with_contents, without, IsWithinLimits}
use Rattle.std.specs.FinMap as finmap
use Rattle.lapd_store.proofs.Entries.{entries-empty, entries-insert_free, insert-remove_same, get-insert_same, get-remove_same, get_contained}

pub used_slots-empty : (slots width : ℕ) → used_slots (empty_store slots width) ≡ 0
used_slots-empty slots width = finmap.len-empty nat_cmp (List ℕ)

values-empty : finmap.values (finmap.empty {X = List ℕ} {R = nat_cmp}) ≡ []
values-empty = ap (map (λ e. e.1)) entries-empty

pub stored_octets-empty : (slots width : ℕ) → stored_octets (empty_store slots width) ≡ 0
stored_octets-empty slots width = ap (sum_by length) values-empty

pub IsWithinLimits-empty : (slots width : ℕ) → IsWithinLimits (empty_store slots width)
IsWithinLimits-empty slots width = record {
  count = omega (arith, used_slots-empty slots width);
  lengths = subst (All (λ o. length o ≤ width)) (sym values-empty) (All-nil (λ o. length o ≤ width));
}

pub contents_of-with_contents : (s : Store) (slot : ℕ) (octets : List ℕ) → contents_of (with_contents s slot octets) slot ≡ Some octets
contents_of-with_contents s = get-insert_same s.contents

pub used_slots-with_contents : (s : Store) (slot : ℕ) (octets : List ℕ) → IsFree s slot → used_slots (with_contents s slot octets) ≡ used_slots s + 1
used_slots-with_contents s slot octets free =
    let more = length_permutation _ _ (entries-insert_free s.contents slot octets free) in
    omega (arith, more, finmap.len-entries s.contents, finmap.len-entries (finmap.insert s.contents slot octets))

pub stored_octets-with_contents : (s : Store) (slot : ℕ) (octets : List ℕ) → IsFree s slot → stored_octets (with_contents s slot octets) ≡ stored_octets s + length octets
stored_octets-with_contents s slot octets free =
    let more = sum_by_values_permutation length _ _ (entries-insert_free s.contents slot octets free) in
    let first = sum_by-cons length octets (finmap.values s.contents) in
    omega (arith, more, first)

pub IsWithinLimits-with_contents : (s : Store) (slot : ℕ) (octets : List ℕ) → IsFree s slot → used_slots s < s.slots → length octets ≤ s.width → IsWithinLimits s → IsWithinLimits (with_contents s slot octets)
IsWithinLimits-with_contents s slot octets free room fits within = record {
  count = omega (arith, used_slots-with_contents s slot octets free, room);
  lengths =
      All-permutation (λ o. length o ≤ s.width) _ _
      (IsPermutation-map (λ e. e.1) _ _ (entries-insert_free s.contents slot octets free))
      (All-cons (λ o. length o ≤ s.width) octets (finmap.values s.contents) fits within.lengths);
}

-- the store in which the released contents lay is the store that is left, with them put in
put_again : (s : Store) (slot : ℕ) (octets : List ℕ) → contents_of s slot ≡ Some octets → with_contents (without s slot) slot octets ≡ s
put_again s slot octets is i = record s { contents = insert-remove_same s.contents slot octets is i }

pub used_slots-without : (s : Store) (slot : ℕ) (octets : List ℕ) → contents_of s slot ≡ Some octets → used_slots (without s slot) + 1 ≡ used_slots s
used_slots-without s slot octets is =
    sym (used_slots-with_contents (without s slot) slot octets (get-remove_same s.contents slot)) ∙ ap used_slots (put_again s slot octets is)

pub stored_octets-without : (s : Store) (slot : ℕ) (octets : List ℕ) → contents_of s slot ≡ Some octets → stored_octets (without s slot) + length octets ≡ stored_octets s
stored_octets-without s slot octets is =
    sym (stored_octets-with_contents (without s slot) slot octets (get-remove_same s.contents slot)) ∙ ap stored_octets (put_again s slot octets is)

pub IsWithinLimits-without : (s : Store) (slot : ℕ) (octets : List ℕ) → contents_of s slot ≡ Some octets → IsWithinLimits s → IsWithinLimits (without s slot)
IsWithinLimits-without s slot octets is within = record {
  count = omega (arith, used_slots-without s slot octets is, within.count);
  lengths =
      All-tail (λ o. length o ≤ s.width) octets _
      (All-permutation (λ o. length o ≤ s.width) _ _
      (IsPermutation-sym _ _ (IsPermutation-map (λ e. e.1) _ _ (entries-insert_free (finmap.remove s.contents slot) slot octets (get-remove_same s.contents slot))))
      (subst (λ m. All (λ o. length o ≤ s.width) (finmap.values m)) (sym (insert-remove_same s.contents slot octets is)) within.lengths));
}

-- no contents are longer than a slot is wide
pub length_within : (s : Store) (slot : ℕ) (octets : List ℕ) → contents_of s slot ≡ Some octets → IsWithinLimits s → length octets ≤ s.width
length_within s slot octets is within =
    All-contains (λ o. length o ≤ s.width) _ octets within.lengths (Contains-values_of _ slot octets (get_contained s.contents slot octets is))

-- a store has at most as many octets as all its slots
pub stored_octets_bound : (s : Store) (width : ℕ) → s.width ≤ width → IsWithinLimits s → stored_octets s ≤ used_slots s * width
stored_octets_bound s width narrow within =
    let bound = sum_by-le length width (finmap.values s.contents) (All-weaker (λ o. length o ≤ s.width) (λ o. length o ≤ width) (λ o h. omega arith) _ within.lengths) in
    subst (λ n. stored_octets s ≤ n * width) (length-map (finmap.entries s.contents) (λ e. e.1) ∙ sym (finmap.len-entries s.contents)) bound
