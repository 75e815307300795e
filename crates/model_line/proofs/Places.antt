-- Where a TEI is: at the one place of a sound table that has it.
use Rattle.model_line.proofs.Vocabulary.{◌≡◌, ◌≢◌, ℕ, ◌≤◌, ◌<◌, Bool, false, not, List, [], ◌∷◌, length, get_or, set, nat_lt, Option, Some, None, refl, sym, ap, ◌∙◌, subst, arith, list_any, prefix_len, cases_eq, ltb-false, get_or-set_same, get_or-set_other, none-some, IsAt, IsSoundTable, Places, is_on, place_of, at-off, place_of-is}

none_any : {X : Type 0} (p : X → Bool) (xs : List X) → length xs ≤ prefix_len (λ y. not (p y)) xs → list_any p xs ≡ false
none_any p [] e = refl
none_any p (x ∷ xs) e = grind (arith, (none_any p xs))

-- one without a place is not on the line, and at no place
pub is-off : (places : Places) (tei : ℕ) → place_of tei places ≡ None → is_on tei places ≡ false
is-off places tei = grind (arith, nat_lt, none-some, none_any, ltb-false)

pub at-no-place : (places : Places) (tei : ℕ) → place_of tei places ≡ None → (i : ℕ) → IsAt places i tei → ⊥
at-no-place places tei none i at = at-off places i tei (is-off places tei none) at

-- and the other way round
pub has-no-place : (places : Places) (tei : ℕ) → ((i : ℕ) → IsAt places i tei → ⊥) → place_of tei places ≡ None
has-no-place places tei nowhere = go (place_of tei places) refl
  where
    go : (o : Option ℕ) → place_of tei places ≡ o → place_of tei places ≡ None
    go None e = e
    go (Some place) e = absurd (nowhere place (place_of-is places tei place e).1)

pub has-place : (places : Places) (tei place : ℕ) → IsSoundTable places → IsAt places place tei → place_of tei places ≡ Some place
has-place places tei place sound at = go (place_of tei places) refl
  where
    go : (o : Option ℕ) → place_of tei places ≡ o → place_of tei places ≡ Some place
    go None e = absurd (at-no-place places tei e place at)
    go (Some other) e = e ∙ ap Some (sound.once other place tei (place_of-is places tei other e).1 at)

-- What comes to a place, or leaves it, leaves each other TEI where it is.
module _ (places new : Places) (place : ℕ) (o : Option ℕ) (sound : IsSoundTable new) (is : new ≡ set places place o) (within : place < length places) (other : ℕ)
    (comes : o ≡ Some other → ⊥) (was : IsAt places place other → ⊥) where
  away : (i : ℕ) → i ≢ place → get_or new i None ≡ get_or places i None
  away i apart = ap (λ ps. get_or ps i None) is ∙ get_or-set_other places place i o None apart

  here : get_or new place None ≡ o
  here = ap (λ ps. get_or ps place None) is ∙ get_or-set_same places place o None within

  nowhere : place_of other places ≡ None → (i : ℕ) → IsAt new i other → ⊥
  nowhere none i at = grind (arith, here, at-no-place, away, cases_eq)

  pub stays-placed : place_of other new ≡ place_of other places
  stays-placed = go (place_of other places) refl
    where
      go : (p : Option ℕ) → place_of other places ≡ p → place_of other new ≡ place_of other places
      go None e = has-no-place new other (nowhere e) ∙ sym e
      go (Some p) e =
          let at = (place_of-is places other p e).1 in
          has-place new other p sound (away p (λ same. was (subst (λ i. IsAt places i other) same at)) ∙ at) ∙ sym e
