-- The assignments that are remembered: after one more, and after a TEI left.
use Rattle.model_teis.proofs.OfNetwork.Vocabulary.{◌≡◌, ℕ, ◌-◌, ◌≤◌, ◌==◌, true, false, List, [], ◌∷◌, ◌++◌, length, drop, set, Option, Some, None, subst, arith, length-drop, AllByRecursion, filter, find, option_map, All-nil, All-cons, All-append, All-drop, recursion_from_All, none-some, same_Some, Places, is_on, place_of, free_place, Remembered, latest, freed, is_of_other, is_for, tei_in}
use Rattle.model_teis.proofs.OfNetwork.Vocabulary.{remembered_in}
use Rattle.model_teis.proofs.OfNetwork.Vocabulary.{IsSoundTable, IsSoundMemory, same_ri, same_tei, length-filter, count_by-le-length, All-get_or}
use Rattle.model_teis.proofs.OfNetwork.Vocabulary.{Reading, Profile, AnnexB, by_reading}
use Rattle.model_teis.proofs.Lists.{All-filter_by, IsDistinct-push, IsDistinct-drop, IsDistinct-filter, none-found, found}
use Rattle.model_teis.proofs.Tables.{same_number, on-put, on-freed, on-range}

pub memory-put : (places : Places) (remembered : List Remembered) (place tei : ℕ) → free_place places ≡ Some place → IsSoundMemory places remembered → IsSoundMemory (set places place (Some tei)) remembered
memory-put places remembered place tei at sound = record {
  few = sound.few;
  one_ri = sound.one_ri;
  one_tei = sound.one_tei;
  on_line = λ k d l. on-put places place tei _ at (sound.on_line k d l);
}

-- where nothing is remembered of an Ri, no assignment has it
not_found : (o : Option Remembered) → option_map tei_in o ≡ None → o ≡ None
not_found o e = grind (arith, none-some)

other_ri : (ri tei : ℕ) (remembered : List Remembered) → remembered_in ri remembered ≡ None → AllByRecursion (λ r. same_ri r (record { ri = ri; tei = tei }) ≡ false) remembered
other_ri ri tei remembered e = none-found (is_for ri) remembered (not_found (find (is_for ri) remembered) e)

-- where a TEI is not on the line, no assignment has it
not_same : (places : Places) (own tei : ℕ) → is_on tei places ≡ false → is_on own places ≡ true → (own == tei) ≡ false
not_same places own tei off on = grind (arith, same_number)

other_tei : (places : Places) (ri tei : ℕ) (remembered : List Remembered) → is_on tei places ≡ false → IsSoundMemory places remembered → AllByRecursion (λ r. same_tei r (record { ri = ri; tei = tei }) ≡ false) remembered
other_tei places ri tei remembered off sound = recursion_from_All (λ r. same_tei r (record { ri = ri; tei = tei }) ≡ false) remembered (λ k d l. not_same places _ tei off (sound.on_line k d l))

at_most_four : (n m : ℕ) → m ≡ n - (n - 4) → m ≤ 4
at_most_four n m e = omega arith

abbrev stays_on : Places → Remembered → Type 0
stays_on places r = is_on r.tei places ≡ true

-- One more is remembered, of a TEI that was not on the line before, and of an Ri that was not remembered.
pub memory-remember : (before places : Places) (remembered : List Remembered) (ri tei : ℕ) → IsSoundMemory before remembered → IsSoundMemory places remembered → remembered_in ri remembered ≡ None → is_on tei before ≡ false → is_on tei places ≡ true → IsSoundMemory places (latest (remembered ++ record { ri = ri; tei = tei } ∷ []))
memory-remember before places remembered ri tei old sound new off on =
    let one : Remembered = record { ri = ri; tei = tei } in
    let all = remembered ++ one ∷ [] in
    record {
      few = at_most_four (length all) (length (drop (length all - 4) all)) (length-drop (length all - 4) all);
      one_ri = IsDistinct-drop same_ri (length all - 4) all (IsDistinct-push same_ri remembered one sound.one_ri (other_ri ri tei remembered new));
      one_tei = IsDistinct-drop same_tei (length all - 4) all (IsDistinct-push same_tei remembered one sound.one_tei (other_tei before ri tei remembered off old));
      on_line = All-drop (stays_on places) (length all - 4) all (All-append (stays_on places) remembered (one ∷ []) sound.on_line (All-cons (stays_on places) one [] on (All-nil (stays_on places))));
    }

-- By annex B it is not.
pub memory-as_read : (r : Reading) (before places : Places) (remembered : List Remembered) (ri tei : ℕ) → IsSoundMemory before remembered → IsSoundMemory places remembered → remembered_in ri remembered ≡ None → is_on tei before ≡ false → is_on tei places ≡ true
    → IsSoundMemory places (by_reading r (latest (remembered ++ record { ri = ri; tei = tei } ∷ [])) remembered)
memory-as_read Profile before places remembered ri tei old sound new off on = memory-remember before places remembered ri tei old sound new off on
memory-as_read AnnexB before places remembered ri tei old sound new off on = sound

-- A TEI leaves.
other_leaves : (tei : ℕ) (r : Remembered) → is_of_other tei r ≡ true → (r.tei == tei) ≡ false
other_leaves tei r e = grind arith

pub memory-freed : (places : Places) (remembered : List Remembered) (tei : ℕ) → IsSoundMemory places remembered → IsSoundMemory (freed places (place_of tei places)) (filter (is_of_other tei) remembered)
memory-freed places remembered tei sound = record {
  few = omega (arith, length-filter (is_of_other tei) remembered, count_by-le-length (is_of_other tei) remembered, sound.few);
  one_ri = IsDistinct-filter same_ri (is_of_other tei) remembered sound.one_ri;
  one_tei = IsDistinct-filter same_tei (is_of_other tei) remembered sound.one_tei;
  on_line = All-filter_by (is_of_other tei) (stays_on places) (stays_on (freed places (place_of tei places))) (λ r e on. on-freed places tei r.tei (other_leaves tei r e) on) remembered sound.on_line;
}

-- A TEI that is remembered is on the line, so it is one that a terminal can have.
found_one : (o : Option Remembered) (tei : ℕ) → option_map tei_in o ≡ Some tei → (r : Remembered) × (o ≡ Some r) × (r.tei ≡ tei)
found_one o tei e = grind (arith, none-some, same_Some)

pub remembered-on : (places : Places) (remembered : List Remembered) (ri tei : ℕ) → IsSoundMemory places remembered → remembered_in ri remembered ≡ Some tei → is_on tei places ≡ true
remembered-on places remembered ri tei sound e =
    let (r, is, same) = found_one (find (is_for ri) remembered) tei e in
    let there = found (is_for ri) remembered r is in
    subst (λ n. is_on n places ≡ true) same (subst (stays_on places) there.at (All-get_or (stays_on places) remembered there.place r there.within sound.on_line))

pub remembered-range : (places : Places) (remembered : List Remembered) (ri tei : ℕ) → IsSoundTable places → IsSoundMemory places remembered → remembered_in ri remembered ≡ Some tei → tei ≤ 127
remembered-range places remembered ri tei table sound e = omega (arith, on-range places tei table (remembered-on places remembered ri tei sound e))
