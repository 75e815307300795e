-- Laws of ownership: what the calls of a shelf do to the list of pairs that it holds. Whoever shares a shelf reasons by
-- these laws, and not about maps. Each takes the clauses of the call that it is about as its premises.
use Rattle.lapd_store.proofs.Vocabulary.{arith, ◌≡◌, ℕ, ◌+◌, ◌<◌, Some, List, [], ◌∷◌, ◌++◌, map, length, refl, sym, ap, subst, ◌∙◌, eqb, append_assoc, get_or, set, flat_map-append, set_split, set-get_or, All-contains, Contains-append_left, slice_get_within, get_or_from_slice_get, IsPermutation-refl, IsPermutation-sym, IsPermutation-cons, IsPermutation-trans, IsPermutation-middle}
use Rattle.lapd_store.proofs.Vocabulary.{IsPermutation-append_comm, IsPermutation-append_left, All-permutation, length_permutation, sum_by-append, sum_by_values_permutation, Contains, IsDistinct, flat_map, fold, remove, IsPermutation, Store, empty_store, contents_of, IsFree, used_slots, stored_octets, with_contents, without, Owned, owned_octets}
use Rattle.std.specs.FinMap as finmap
use Rattle.std.specs.List.{slice_get}
use Rattle.lapd_store.specs.Ownership.{Holds}
use Rattle.lapd_store.proofs.Entries.{entries-empty, entries-insert_free, entries-remove, entries_found, keys_distinct}

-- a fresh shelf holds nothing
pub Holds-empty : (slots width : ℕ) → Holds (empty_store slots width) []
Holds-empty slots width = record { entries = subst (IsPermutation []) (sym entries-empty) (IsPermutation-refl []) }

-- a shelf with no slot in use holds nothing
pub Holds-unused : {s : Store} → used_slots s ≡ 0 → Holds s []
Holds-unused {s} none =
    let empty = finmap.empty_of_len s.contents none in
    subst (λ m. Holds (record s { contents = m }) []) (sym empty) (Holds-empty s.slots s.width)

-- the pairs stand in no order
pub Holds-permutation : {s : Store} (xs ys : List Owned) → IsPermutation xs ys → Holds s xs → Holds s ys
Holds-permutation xs ys order held = record { entries = IsPermutation-trans _ _ _ (IsPermutation-sym _ _ order) held.entries }

-- after a `put` the shelf holds the new pair and what it held
pub Holds-put : {old new : Store} (slot : ℕ) (octets : List ℕ) (owned : List Owned) → IsFree old slot → new ≡ with_contents old slot octets → Holds old owned → Holds new ((slot, octets) ∷ owned)
Holds-put {old} slot octets owned free stored held =
    subst (λ s. Holds s ((slot, octets) ∷ owned)) (sym stored)
    (record { entries = IsPermutation-trans _ _ _ (IsPermutation-cons _ _ _ held.entries) (entries-insert_free old.contents slot octets free) })

-- after a `release` the shelf holds the other pairs
pub Holds-release : {old new : Store} (slot : ℕ) (octets : List ℕ) (owned : List Owned) → new ≡ without old slot → Holds old ((slot, octets) ∷ owned) → Holds new owned
Holds-release {old} slot octets owned released held = grind (arith, entries-remove)

-- a slot of the list has its octets
pub contents_of-held : {s : Store} (owned : List Owned) (slot : ℕ) (octets : List ℕ) → Contains owned (slot, octets) → Holds s owned → contents_of s slot ≡ Some octets
contents_of-held {s} owned slot octets among held =
    All-contains (λ p. contents_of s p.0 ≡ Some p.1) owned (slot, octets)
    (All-permutation (λ p. contents_of s p.0 ≡ Some p.1) _ _ (IsPermutation-sym _ _ held.entries) (entries_found s.contents))
    among

-- no slot stands twice
pub slots_distinct : {s : Store} (owned : List Owned) → Holds s owned → IsDistinct eqb (map (λ p. p.0) owned)
slots_distinct {s} owned held = keys_distinct s.contents owned held.entries

-- as many slots are in use as there are pairs
pub used_slots-held : {s : Store} (owned : List Owned) → Holds s owned → used_slots s ≡ length owned
used_slots-held {s} owned held = finmap.len-entries s.contents ∙ length_permutation _ _ held.entries

-- the octets of values are those of their pairs
pub values_octets : (n : ℕ) (owned : List Owned) → fold (λ a octets. a + length octets) n (map (λ p. p.1) owned) ≡ fold (λ a p. a + length p.1) n owned
values_octets n [] = refl
values_octets n (p ∷ ps) = values_octets (n + length p.1) ps

-- the octets stored are those of the pairs
pub stored_octets-held : {s : Store} (owned : List Owned) → Holds s owned → stored_octets s ≡ owned_octets owned
stored_octets-held {s} owned held = sum_by_values_permutation length _ _ held.entries ∙ values_octets 0 owned

pub owned_octets-append : (xs ys : List Owned) → owned_octets (xs ++ ys) ≡ owned_octets xs + owned_octets ys
owned_octets-append = sum_by-append (λ p. length p.1)

-- The same with several owners, whose lists are appended: `own` is one owner's list, and `others` that of all others.

-- the pair at a place of an owner's list
pub contents_of-at : {s : Store} (own others : List Owned) (i slot : ℕ) (octets : List ℕ) → slice_get own i ≡ Some (slot, octets) → Holds s (own ++ others) → contents_of s slot ≡ Some octets
contents_of-at own others i slot octets is held =
    contents_of-held (own ++ others) slot octets
    (Contains-append_left own others _ (i, slice_get_within own i _ is, get_or_from_slice_get own i _ _ is))
    held

-- after a `put` an owner has one pair more, its newest
pub Holds-put_newest : {old new : Store} (slot : ℕ) (octets : List ℕ) (own others : List Owned) → IsFree old slot → new ≡ with_contents old slot octets → Holds old (own ++ others) → Holds new ((own ++ (slot, octets) ∷ []) ++ others)
Holds-put_newest slot octets own others free stored held =
    subst (Holds _) (sym (append_assoc own ((slot, octets) ∷ []) others))
    (Holds-permutation _ _ (IsPermutation-sym _ _ (IsPermutation-middle own (slot, octets) others))
    (Holds-put slot octets (own ++ others) free stored held))

-- two owners change places
pub Holds-swap : {s : Store} (xs ys : List Owned) → Holds s (xs ++ ys) → Holds s (ys ++ xs)
Holds-swap xs ys = Holds-permutation _ _ (IsPermutation-append_comm xs ys)

second_to_front : (xs ys zs : List Owned) → IsPermutation (xs ++ (ys ++ zs)) (ys ++ (xs ++ zs))
second_to_front xs ys zs =
    subst (λ l. IsPermutation l (ys ++ (xs ++ zs))) (append_assoc xs ys zs)
    (subst (IsPermutation ((xs ++ ys) ++ zs)) (append_assoc ys xs zs)
    (IsPermutation-append_left zs _ _ (IsPermutation-append_comm xs ys)))

-- the second of three owners comes first
pub Holds-second : {s : Store} (xs ys zs : List Owned) → Holds s (xs ++ (ys ++ zs)) → Holds s (ys ++ (xs ++ zs))
Holds-second xs ys zs = Holds-permutation _ _ (second_to_front xs ys zs)

-- the pairs of a list of owners, one of whom is replaced
replaced : {X : Type 0} (f : X → List Owned) (xs : List X) (i : ℕ) (x : X) → i < length xs → IsPermutation (flat_map f (set xs i x)) (f x ++ flat_map f (remove xs i))
replaced f xs i x within = grind (arith, set_split, flat_map-append, second_to_front)

-- one of a list of owners is taken out, all others together being the others
pub Holds-take_out : {s : Store} {X : Type 0} (f : X → List Owned) (xs : List X) (i : ℕ) (x : X) (others : List Owned) → i < length xs → x ≡ get_or xs i x → Holds s (flat_map f xs ++ others) → Holds s (f x ++ (flat_map f (remove xs i) ++ others))
Holds-take_out f xs i x others within is held =
    let same = ap (set xs i) is ∙ set-get_or xs i x in
    subst (Holds _) (append_assoc (f x) (flat_map f (remove xs i)) others)
    (Holds-permutation _ _
    (IsPermutation-append_left others _ _ (subst (λ l. IsPermutation (flat_map f l) (f x ++ flat_map f (remove xs i))) same (replaced f xs i x within)))
    held)

-- and put back, as it is then
pub Holds-put_back : {s : Store} {X : Type 0} (f : X → List Owned) (xs : List X) (i : ℕ) (x : X) (others : List Owned) → i < length xs → Holds s (f x ++ (flat_map f (remove xs i) ++ others)) → Holds s (flat_map f (set xs i x) ++ others)
Holds-put_back f xs i x others within held =
    Holds-permutation _ _ (IsPermutation-append_left others _ _ (IsPermutation-sym _ _ (replaced f xs i x within)))
    (subst (Holds _) (sym (append_assoc (f x) (flat_map f (remove xs i)) others)) held)
