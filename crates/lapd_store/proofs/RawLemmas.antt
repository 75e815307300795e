-- A region of slots as a store.
use Rattle.lapd_store.proofs.Vocabulary.{◌≡◌, ◌≢◌, ℕ, zero, suc, ◌+◌, ◌*◌, ◌<◌, ◌≤◌, ◌⊎◌, inl, inr, Option, Some, None, List, [], ◌∷◌, map, length, get_or, refl, sym, ap, ◌∙◌, arith, filter_map, nat_cmp, nat_cmp_total, cond-true, cond-false, ne_eqb, eq-eqb, get_or_default_zero, entries_from, Holds, SameOutside, free_mark, link, slot_contents, contents_from, IsApart, IsFreeList}
use native.Mathlib.Nat.{zero-mul, suc-mul}
use Rattle.std.specs.FinMap as finmap
use Rattle.lapd_store.proofs.Runs.{run_of}
use Rattle.lapd_store.proofs.Entries.{find_from}

get_contents : (region : List (Option ℕ)) (width slot i s : ℕ) (lens : List ℕ) → s ≡ slot + i → get_or (contents_from region width slot lens) i None ≡ slot_contents region width s (get_or lens i free_mark)
get_contents region width slot i s [] is = refl
get_contents region width slot zero s (len ∷ lens) is = let same : slot ≡ s = omega arith in ap (λ k. slot_contents region width k len) same
get_contents region width slot (suc i) s (len ∷ lens) is = get_contents region width (slot + 1) i s lens (omega arith)

-- what the store has for a slot
pub get_raw : (region : List (Option ℕ)) (width : ℕ) (lens : List ℕ) (slot : ℕ) → finmap.get (finmap.from_entries {R = nat_cmp} (entries_from 0 (contents_from region width 0 lens))) slot ≡ slot_contents region width slot (get_or lens slot free_mark)
get_raw region width lens slot =
    finmap.get-from_entries nat_cmp_total _ slot ∙ find_from 0 slot slot (contents_from region width 0 lens) (omega arith) ∙ get_contents region width 0 slot slot lens (omega arith)

pub times_le : (a b w : ℕ) → a ≤ b → a * w ≤ b * w
times_le zero b w le = omega (arith, zero-mul w)
times_le (suc a) zero w le = absurd (omega arith)
times_le (suc a) (suc b) w le = omega (arith, suc-mul a w, suc-mul b w, times_le a b w (omega arith))

-- a slot ends where the next begins
pub slot_ends : (a b w : ℕ) → a < b → a * w + w ≤ b * w
slot_ends a b w lt = omega (arith, suc-mul a w, times_le (suc a) b w (omega arith))

below_or_not : (a b : ℕ) → a ≢ b → (a < b) ⊎ (b < a)
below_or_not zero zero ne = absurd (ne refl)
below_or_not zero (suc b) ne = inl (omega arith)
below_or_not (suc a) zero ne = inr (omega arith)
below_or_not (suc a) (suc b) ne = elim (below_or_not a b (λ e. ne (ap suc e))) [ inl h ↦ inl (omega arith) | inr h ↦ inr (omega arith) ]

-- what lies elsewhere stays
kept_at : (old new : List (Option ℕ)) (from len at : ℕ) (xs : List ℕ) → SameOutside old new from len → (at + length xs ≤ from) ⊎ (from + len ≤ at) → Holds old at xs → Holds new at xs
kept_at old new from len at xs same apart holds k lt = grind arith

-- a write in one slot leaves another as it was
pub kept : (old new : List (Option ℕ)) (width slot other len : ℕ) (xs : List ℕ) → SameOutside old new (slot * width) len → len ≤ width → other ≢ slot → length xs ≤ width → Holds old (other * width) xs → Holds new (other * width) xs
kept old new width slot other len xs same short ne o holds = grind (arith, kept_at, below_or_not, slot_ends)

all_written : (xs : List ℕ) → filter_map (λ c. c) (map Some xs) ≡ xs
all_written [] = refl
all_written (x ∷ xs) = ap (λ l. x ∷ l) (all_written xs)

-- a used slot's contents
pub contents_held : (region : List (Option ℕ)) (width slot len : ℕ) (xs : List ℕ) → length xs ≡ len → len ≢ free_mark → slot * width + length xs ≤ length region → Holds region (slot * width) xs → slot_contents region width slot len ≡ Some xs
contents_held region width slot len xs long used within holds = grind (arith, cond-false, ne_eqb, run_of, all_written)

-- and a free one's
pub contents_free : (region : List (Option ℕ)) (width slot len : ℕ) → len ≡ free_mark → slot_contents region width slot len ≡ None
contents_free region width slot len free = cond-true _ _ _ (eq-eqb len free_mark free)

-- a marked slot is marked whatever is read past the end
pub marked : (lens : List ℕ) (slot : ℕ) → get_or lens slot 0 ≡ free_mark → get_or lens slot free_mark ≡ free_mark
marked [] slot is = refl
marked (len ∷ lens) zero is = is
marked (len ∷ lens) (suc slot) is = marked lens slot is

pub marked_within : (lens : List ℕ) (slot : ℕ) → get_or lens slot 0 ≡ free_mark → slot < length lens
marked_within [] slot is = absurd (omega (arith, is))
marked_within (len ∷ lens) zero is = omega arith
marked_within (len ∷ lens) (suc slot) is = omega (arith, marked_within lens slot is)

pub used_within : (lens : List ℕ) (slot : ℕ) → get_or lens slot free_mark ≢ free_mark → slot < length lens
used_within [] slot used = absurd (used refl)
used_within (len ∷ lens) zero used = omega arith
used_within (len ∷ lens) (suc slot) used = omega (arith, used_within lens slot used)

-- a used slot is not on the free list
pub apart_used : (region : List (Option ℕ)) (lens : List ℕ) (width : ℕ) (slots : List ℕ) (first slot : ℕ) → get_or lens slot free_mark ≢ free_mark → IsFreeList region lens width slots first → IsApart slot slots
apart_used region lens width [] first slot used list = tt
apart_used region lens width (other ∷ others) first slot used list =
    ((λ same. used (marked lens slot (ap (λ k. get_or lens k 0) (sym same) ∙ list.1))), apart_used region lens width others list.3.0 slot used list.3.2)

-- the free list after a write in a slot that is not on it
pub list_kept : (old new : List (Option ℕ)) (lens lens' : List ℕ) (width slot len : ℕ) → SameOutside old new (slot * width) len → len ≤ width → 2 ≤ width
    → ((other : ℕ) → other ≢ slot → get_or lens' other 0 ≡ get_or lens other 0)
    → (slots : List ℕ) (first : ℕ) → IsApart slot slots → IsFreeList old lens width slots first → IsFreeList new lens' width slots first
list_kept old new lens lens' width slot len same short two others [] first apart list = list
list_kept old new lens lens' width slot len same short two others (other ∷ rest) first apart list = (
  list.0,
  others other apart.0 ∙ list.1,
  list.2,
  (list.3.0, kept old new width slot other len (link list.3.0) same short apart.0 two list.3.1, list_kept old new lens lens' width slot len same short two others rest list.3.0 apart.1 list.3.2),
)

-- a length that was read is that of the list
pub read_length : (lens : List ℕ) (slot len : ℕ) → slot < length lens → len ≡ get_or lens slot len → len ≡ get_or lens slot free_mark
read_length lens slot len lt is = is ∙ get_or_default_zero lens slot len lt ∙ sym (get_or_default_zero lens slot free_mark lt)
