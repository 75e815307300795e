-- The definitions on a worked example: a shelf of two slots with two messages on it, in slots 3 and 1.
use Rattle.lapd_store.proofs.Vocabulary.{◌≡◌, Some, None, [], ◌∷◌, refl, sym, ◌∙◌, arith, IsDistinct-head, get-empty, nat_cmp, Store, empty_store, contents_of, IsFull, stored_octets, with_contents, without}
use Rattle.lapd_store.specs.Ownership.{Holds}
use Rattle.lapd_store.proofs.Entries.{get-insert_same, get-insert_other, get-remove_same}
use Rattle.lapd_store.proofs.Ownership.{Holds-empty, Holds-put, Holds-release, Holds-swap, used_slots-held, stored_octets-held, slots_distinct}

abbrev one : Store
one = with_contents (empty_store 2 8) 3 (65 ∷ 66 ∷ [])

abbrev two : Store
two = with_contents one 1 (67 ∷ [])

nothing : contents_of (empty_store 2 8) 3 ≡ None
nothing = get-empty nat_cmp 3

free : contents_of one 1 ≡ None
free = get-insert_other _ 3 _ 1 (λ e. absurd (omega arith)) ∙ get-empty nat_cmp 1

one_held : Holds one ((3, 65 ∷ 66 ∷ []) ∷ [])
one_held = Holds-put 3 (65 ∷ 66 ∷ []) [] nothing refl (Holds-empty 2 8)

-- the two messages in either order
two_held : Holds two ((1, 67 ∷ []) ∷ (3, 65 ∷ 66 ∷ []) ∷ [])
two_held = Holds-put 1 (67 ∷ []) _ free refl one_held

two_turned : Holds two ((3, 65 ∷ 66 ∷ []) ∷ (1, 67 ∷ []) ∷ [])
two_turned = Holds-swap ((1, 67 ∷ []) ∷ []) ((3, 65 ∷ 66 ∷ []) ∷ []) two_held

-- every slot is in use, with three octets in all
two_full : IsFull two
two_full = used_slots-held _ two_held

two_octets : stored_octets two ≡ 3
two_octets = stored_octets-held _ two_held

two_first : contents_of two 3 ≡ Some (65 ∷ 66 ∷ [])
two_first = get-insert_other _ 1 _ 3 (λ e. absurd (omega arith)) ∙ get-insert_same _ 3 _

-- after the release of slot 1 the first message is left, and slot 1 is free
one_left : Holds (without two 1) ((3, 65 ∷ 66 ∷ []) ∷ [])
one_left = Holds-release 1 (67 ∷ []) _ refl two_held

freed : contents_of (without two 1) 1 ≡ None
freed = get-remove_same _ 1

-- a list that leaves one message out is not what the shelf holds
not_one : Holds two ((3, 65 ∷ 66 ∷ []) ∷ []) → ⊥
not_one held = absurd (omega (arith, sym (used_slots-held _ two_held) ∙ used_slots-held _ held))

-- nor is one in which a slot stands twice
not_twice : Holds two ((3, 65 ∷ 66 ∷ []) ∷ (3, 65 ∷ 66 ∷ []) ∷ []) → ⊥
not_twice held = cc (IsDistinct-head _ 3 _ (slots_distinct _ held)).0
