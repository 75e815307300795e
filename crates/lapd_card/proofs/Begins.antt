-- A card as it begins.
use Rattle.lapd_card.proofs.Vocabulary.{◌≡◌, ◌≤◌, List, [], ◌∷◌, map, ◌++◌, length, replicate, refl, sym, ap, subst, ◌∙◌, arith, None, Some, Option, Bool, true, false, if◌then◌else◌, none-some, nat_lt, ◌||◌, or_parts, ltb-false, length-replicate, append-nil, All-nil, All-cons, All, AllByRecursion, flat_map, zip, Config, first_fault, fresh_line, fresh, reached-fresh, Holds, Store, used_slots}
use Rattle.lapd_card.proofs.Vocabulary.{Holds-unused, used_slots-held, none_counted, counters_of, FrameLine, pairs_of, held_of, IsFit, owned, IsFresh, AreFresh, LinesStand, FrameStands, is_too_small, start_fault, fault_by, Field, BadConfig, ShelfTooSmall}
use Rattle.lapd_line.specs.Marks.{AreMarked}
use Rattle.lapd_line.specs.declared.marks.Marks.{Marks}
use Rattle.lapd_card.proofs.Waiting.{none_marked_first}

empty_list : {X : Type 0} (xs : List X) → length xs ≡ 0 → xs ≡ []
empty_list [] none = refl
empty_list (x ∷ xs) none = absurd (omega (arith, none))

-- what is so of each line as it begins is so of them all, beside machines as they begin
module _ {L M : Type 0} (Begins : L → Type 0) (m : M) where
  each_fits : (Fits : L × M → Type 0) → ((l : L) → Begins l → Fits (l, m)) → (ls : List L) → AllByRecursion Begins ls → All Fits (zip ls (replicate (length ls) m))
  each_fits Fits one [] all = All-nil Fits
  each_fits Fits one (l ∷ ls) (first, all) = All-cons Fits (l, m) (zip ls (replicate (length ls) m)) (one l first) (each_fits Fits one ls all)

  none_owned : {O : Type 0} (owns : L × M → List O) → ((l : L) → Begins l → owns (l, m) ≡ []) → (ls : List L) → AllByRecursion Begins ls → flat_map owns (zip ls (replicate (length ls) m)) ≡ []
  none_owned owns one [] all = refl
  none_owned owns one (l ∷ ls) (first, all) = ap (λ ps. ps ++ flat_map owns (zip ls (replicate (length ls) m))) (one l first) ∙ none_owned owns one ls all

  each_is : (of : L → M) → ((l : L) → Begins l → of l ≡ m) → (ls : List L) → AllByRecursion Begins ls → map of ls ≡ replicate (length ls) m
  each_is of one [] all = refl
  each_is of one (l ∷ ls) (first, all) = ap (λ k. k ∷ map of ls) (one l first) ∙ ap (λ ks. m ∷ ks) (each_is of one ls all)

-- a card begins where both hold
pub no_fault : (c : Config) (s : Store) → start_fault c s ≡ None → (first_fault c ≡ None) × (is_too_small c s ≡ false)
no_fault c s none = go (first_fault c) (is_too_small c s) refl refl
  where
    go : (field : Option Field) (small : Bool) → first_fault c ≡ field → is_too_small c s ≡ small → (first_fault c ≡ None) × (is_too_small c s ≡ false)
    go (Some f) small is too = absurd (none-some (BadConfig f) (sym none ∙ ap (λ o. fault_by o c s) is))
    go None true is too = absurd (none-some ShelfTooSmall (sym none ∙ ap (λ o. fault_by o c s) is ∙ ap (λ b. if b then Some ShelfTooSmall else None) too))
    go None false is too = (is, too)

-- a shelf that is not too small is wide, has the slots and holds nothing
pub has_room_for : (c : Config) (s : Store) → is_too_small c s ≡ false → (c.n201 ≤ s.width) × (c.slots ≤ s.slots) × Holds s []
has_room_for c s room =
    let first = or_parts (nat_lt s.slots c.slots || nat_lt s.width c.n201) (nat_lt 0 (used_slots s)) room in
    let second = or_parts (nat_lt s.slots c.slots) (nat_lt s.width c.n201) first.0 in
    let none_used : used_slots s ≤ 0 = ltb-false 0 (used_slots s) first.1 in
    let unused : used_slots s ≡ 0 = omega (arith, none_used) in
    (ltb-false s.width c.n201 second.1, ltb-false s.slots c.slots second.0, Holds-unused unused)

module _ (c : Config) (ls : List FrameLine) (all : AreFresh c ls) where
  -- nothing is counted of lines as they begin
  pub none_is_counted : map counters_of ls ≡ replicate c.lines none_counted
  none_is_counted = each_is (IsFresh c) none_counted counters_of (λ l one. one.counters) ls all.each ∙ ap (λ n. replicate n none_counted) all.count

  -- a line owns nothing
  owns_nothing : (s : Store) → c.n201 ≤ s.width → Holds s [] → (l : FrameLine) → IsFresh c l → pairs_of l (fresh_line c) ≡ []
  owns_nothing s wide none l fresh =
      let pairs = pairs_of l (fresh_line c) in
      let held = held_of l s [] (fresh_line c) (fresh.stands s [] wide none) in
      empty_list pairs (ap length (sym (append-nil pairs)) ∙ sym (used_slots-held (pairs ++ []) held) ∙ used_slots-held [] none)

  -- and they stand, on a shelf that is not too small
  pub lines_begin : (s : Store) → is_too_small c s ≡ false → LinesStand c ls s (replicate c.lines (fresh_line c))
  lines_begin s room =
      let (wide, slots, unused) = has_room_for c s room in
      let fits : (l : FrameLine) → IsFresh c l → IsFit c (l, fresh_line c) = λ l one. record { config = one.config; store = s; others = []; stands = one.stands s [] wide unused } in
      record {
        width = wide;
        count = all.count ∙ sym (length-replicate c.lines (fresh_line c));
        fit = subst (λ n. All (IsFit c) (zip ls (replicate n (fresh_line c)))) all.count (each_fits (IsFresh c) (fresh_line c) (IsFit c) fits ls all.each);
        held = subst (λ n. Holds s (flat_map owned (zip ls (replicate n (fresh_line c))) ++ [])) all.count
            (subst (λ ps. Holds s (ps ++ [])) (sym (none_owned (IsFresh c) (fresh_line c) owned (owns_nothing s wide unused) ls all.each)) unused);
      }

  pub fresh_stands : {S : Type 0} (store : S → Store) (shelf : S) (marks : Marks) → AreMarked marks (λ number. false) → start_fault c (store shelf) ≡ None
      → FrameStands store (record { config = c; lines = ls; shelf = shelf; waiting = marks }) (fresh c)
  fresh_stands store shelf marks unmarked none =
      let (range, room) = no_fault c (store shelf) none in
      let (wide, slots, unused) = has_room_for c (store shelf) room in
      record { config = refl; lines = lines_begin (store shelf) room; slots = slots; waiting = none_marked_first c marks unmarked; reached = reached-fresh c range }
