-- The table of the TEIs: what stands where, after a TEI came and after one left.
use Rattle.model_teis.proofs.Vocabulary.{cases_eq, ◌≡◌, ℕ, zero, suc, ◌<◌, ◌≤◌, ◌⊎◌, ◌==◌, Bool, true, false, not, [], ◌∷◌, length, set, get_or, Option, Some, None, subst, ◌∙◌, refl, sym, ap, arith, false≢true, nat_tests, get_or-set_same, get_or-set_other, position-Some, none-some, same_Some, Places, is_free, has, is_on, is_off, place_of, free_place, free_tei, automatic, freed, IsAt, IsSoundTable}
use Rattle.model_teis.proofs.Vocabulary.{IsLowestFree, replicate, ◌+◌, ◌-◌, list_any_at, Any-from_list_any, get_or_default, length-range_with_len, get_or-range_with_len}
use Rattle.model_teis.proofs.Lists.{found}

pub same_number : (a b : ℕ) → (a == b) ≡ true → a ≡ b
same_number a b e = grind (arith, nat_tests)

pub is_same : (a b : ℕ) → a ≡ b → (a == b) ≡ true
is_same a b e = grind (arith, nat_tests)

-- a place that has a TEI is one of the table's
pub at-within : (places : Places) (i tei : ℕ) → IsAt places i tei → i < length places
at-within [] i tei e = absurd (none-some tei e)
at-within (o ∷ places) zero tei e = omega arith
at-within (o ∷ places) (suc i) tei e = omega (arith, at-within places i tei e)

-- a TEI that is at a place is on the line, and the other way round
pub is_on-at : (places : Places) (i tei : ℕ) → IsAt places i tei → is_on tei places ≡ true
is_on-at places i tei e = list_any_at (has tei) places i None (at-within places i tei e) (ap (has tei) e ∙ is_same tei tei refl)

holder : (tei : ℕ) (o : Option ℕ) → has tei o ≡ true → o ≡ Some tei
holder tei o e = grind (arith, same_number)

pub at-is_on : (places : Places) (tei : ℕ) → is_on tei places ≡ true → (i : ℕ) × IsAt places i tei
at-is_on places tei e =
    let there = Any-from_list_any (has tei) places e in
    (there.0, get_or_default places there.0 None there.1 there.2 ∙ there.3 ∙ holder tei there.1 there.4)

-- a TEI that is not on the line is at no place
pub at-off : (places : Places) (i tei : ℕ) → is_on tei places ≡ false → IsAt places i tei → ⊥
at-off places i tei off e = false≢true (sym off ∙ is_on-at places i tei e)

-- the place that is found is free, or has the TEI
nobody : (o : Option ℕ) → is_free o ≡ true → o ≡ None
nobody o e = grind arith

pub free_place-is : (places : Places) (place : ℕ) → free_place places ≡ Some place → (place < length places) × (get_or places place None ≡ None)
free_place-is places place e = grind (arith, found, position-Some, nobody)

pub place_of-is : (places : Places) (tei place : ℕ) → place_of tei places ≡ Some place → (place < length places) × IsAt places place tei
place_of-is places tei place e = grind (arith, found, position-Some, holder)

-- At a place is what was put there, and at each other place what was there before.
at_put : (places : Places) (place i tei : ℕ) (o : Option ℕ) → place < length places → IsAt (set places place o) i tei → ((i ≡ place) × (o ≡ Some tei)) ⊎ ((i ≡ place → ⊥) × IsAt places i tei)
at_put places place i tei o within e = grind (arith, cases_eq, get_or-set_same, get_or-set_other)

table_set : (places : Places) (place : ℕ) (o : Option ℕ) → IsSoundTable places → place < length places → ((tei : ℕ) → o ≡ Some tei → (is_on tei places ≡ false) × (tei ≤ 126)) → IsSoundTable (set places place o)
table_set places place o sound within comes = grind (arith, at_put, at-off)

pub table-put : (places : Places) (place tei : ℕ) → IsSoundTable places → is_on tei places ≡ false → free_place places ≡ Some place → tei ≤ 126 → IsSoundTable (set places place (Some tei))
table-put places place tei sound off at low =
    table_set places place (Some tei) sound (free_place-is places place at).0 (λ t is. subst (λ n. (is_on n places ≡ false) × (n ≤ 126)) (same_Some tei t is) (off, low))

pub table-freed : (places : Places) (tei : ℕ) → IsSoundTable places → IsSoundTable (freed places (place_of tei places))
table-freed places tei sound = grind (arith, table_set, place_of-is, none-some)

-- a TEI that is on the line stays while another comes, and while another leaves
on_set : (places : Places) (place i tei : ℕ) (o : Option ℕ) → (i ≡ place → ⊥) → IsAt places i tei → is_on tei (set places place o) ≡ true
on_set places place i tei o apart at = is_on-at (set places place o) i tei (get_or-set_other places place i o None apart ∙ at)

pub on-put : (places : Places) (place tei other : ℕ) → free_place places ≡ Some place → is_on other places ≡ true → is_on other (set places place (Some tei)) ≡ true
on-put places place tei other at on =
    let (i, there) = at-is_on places other on in
    on_set places place i other (Some tei) (λ same. none-some other (sym (free_place-is places place at).1 ∙ subst (λ k. IsAt places k other) same there)) there

pub on-newcomer : (places : Places) (place tei : ℕ) → free_place places ≡ Some place → is_on tei (set places place (Some tei)) ≡ true
on-newcomer places place tei at = is_on-at (set places place (Some tei)) place tei (get_or-set_same places place (Some tei) None (free_place-is places place at).0)

on_cleared : (places : Places) (place tei other : ℕ) → IsAt places place tei → (other == tei) ≡ false → is_on other places ≡ true → is_on other (set places place None) ≡ true
on_cleared places place tei other at apart on =
    let (i, there) = at-is_on places other on in
    on_set places place i other None (λ same. false≢true (sym apart ∙ is_same other tei (same_Some other tei (sym (subst (λ k. IsAt places k other) same there) ∙ at)))) there

pub on-freed : (places : Places) (tei other : ℕ) → (other == tei) ≡ false → is_on other places ≡ true → is_on other (freed places (place_of tei places)) ≡ true
on-freed places tei other apart on =
    elim (place_of tei places) as (λ o. place_of tei places ≡ o → is_on other (freed places o) ≡ true) [
      | None ↦ λ e. on
      | Some place ↦ λ e. on_cleared places place tei other (place_of-is places tei place e).1 apart on
    ] refl

-- a TEI that is on the line is at most 126
pub on-range : (places : Places) (tei : ℕ) → IsSoundTable places → is_on tei places ≡ true → tei ≤ 126
on-range places tei sound on = let (i, there) = at-is_on places tei on in sound.range i tei there

-- The TEI that is found is the lowest.
pub not_not : (b : Bool) → not b ≡ false → b ≡ true
not_not b e = grind arith

not_true : (b : Bool) → not b ≡ true → b ≡ false
not_true b e = grind arith

pub free_tei-is : (places : Places) (tei : ℕ) → free_tei places ≡ Some tei → IsLowestFree places tei
free_tei-is places tei e =
    let first = found (is_off places) automatic tei e in
    let place : first.place < 63 = omega (arith, first.within, length-range_with_len 64 63) in
    let is : 64 + first.place ≡ tei = sym (get_or-range_with_len 64 63 first.place tei place) ∙ first.at in
    record {
      least = omega (arith, is);
      most = omega (arith, is, place);
      off = not_true _ first.passes;
      lower = λ other l h.
          let k = other - 64 in
          let there : get_or automatic k tei ≡ other = get_or-range_with_len 64 63 k tei (omega (arith, is, place)) ∙ omega (arith, l) in
          not_not _ (ap (is_off places) (sym there) ∙ first.before k (omega (arith, is, l)));
    }

-- as a table begins
nowhere : (places i tei : ℕ) → IsAt (replicate places None) i tei → ⊥
nowhere zero i tei e = none-some tei e
nowhere (suc places) zero tei e = none-some tei e
nowhere (suc places) (suc i) tei e = nowhere places i tei e

pub table-empty : (places : ℕ) → IsSoundTable (replicate places None)
table-empty places = grind (arith, nowhere)
