-- Lemmas on lists.
use Rattle.model_teis.proofs.Vocabulary.{◌≡◌, ℕ, zero, suc, ◌<◌, Bool, true, false, cond, List, [], ◌∷◌, ◌++◌, drop, Some, None, ◌∙◌, refl, sym, ap, All, AllByRecursion, IsDistinct, filter, find, All-from_recursion, recursion_from_All, none-some, length, get_or, find_at, get_or_from_slice_get, slice_get_within, passes_at_first, fails_before_first, position_or_len}
use Rattle.model_teis.proofs.Vocabulary.{◌+◌, ◌≤◌, arith, cases_eq, get_or_default, inl, inr, subst}

-- what holds of all that pass a test holds of what a filter keeps
kept_by : {X : Type 0} (p : X → Bool) (P Q : X → Type 0) → ((x : X) → p x ≡ true → P x → Q x) → (xs : List X) → AllByRecursion P xs → AllByRecursion Q (filter p xs)
kept_by p P Q h [] all = tt
kept_by p P Q h (x ∷ xs) all =
    elim (p x) as (λ b. p x ≡ b → AllByRecursion Q (cond b (x ∷ filter p xs) (filter p xs))) [
      | true ↦ λ e. (h x e all.0, kept_by p P Q h xs all.1)
      | false ↦ λ e. kept_by p P Q h xs all.1
    ] refl

pub All-filter_by : {X : Type 0} (p : X → Bool) (P Q : X → Type 0) → ((x : X) → p x ≡ true → P x → Q x) → (xs : List X) → All P xs → All Q (filter p xs)
All-filter_by p P Q h xs all = All-from_recursion Q (filter p xs) (kept_by p P Q h xs (recursion_from_All P xs all))

module _ {X : Type 0} (same : X → X → Bool) where
  -- one more that is apart from all
  apart_push : (x y : X) (xs : List X) → same x y ≡ false → AllByRecursion (λ z. same x z ≡ false) xs → AllByRecursion (λ z. same x z ≡ false) (xs ++ y ∷ [])
  apart_push x y [] e all = (e, tt)
  apart_push x y (z ∷ xs) e all = (all.0, apart_push x y xs e all.1)

  pub IsDistinct-push : (xs : List X) (y : X) → IsDistinct same xs → AllByRecursion (λ x. same x y ≡ false) xs → IsDistinct same (xs ++ y ∷ [])
  unfolding IsDistinct
  IsDistinct-push [] y apart all = (tt, tt)
  IsDistinct-push (x ∷ xs) y apart all = (apart_push x y xs all.0 apart.0, IsDistinct-push xs y apart.1 all.1)

  pub IsDistinct-drop : (n : ℕ) (xs : List X) → IsDistinct same xs → IsDistinct same (drop n xs)
  unfolding IsDistinct
  IsDistinct-drop zero xs apart = apart
  IsDistinct-drop (suc n) [] apart = tt
  IsDistinct-drop (suc n) (x ∷ xs) apart = IsDistinct-drop n xs apart.1

  pub IsDistinct-filter : (p : X → Bool) (xs : List X) → IsDistinct same xs → IsDistinct same (filter p xs)
  unfolding IsDistinct
  IsDistinct-filter p [] apart = tt
  IsDistinct-filter p (x ∷ xs) apart =
      elim (p x) as (λ b. IsDistinct same (cond b (x ∷ filter p xs) (filter p xs))) [
        | true ↦ (kept_by p (λ z. same x z ≡ false) (λ z. same x z ≡ false) (λ z e h. h) xs apart.0, IsDistinct-filter p xs apart.1)
        | false ↦ IsDistinct-filter p xs apart.1
      ]

-- no element passes a test where none is found
pub none-found : {X : Type 0} (p : X → Bool) (xs : List X) → find p xs ≡ None → AllByRecursion (λ x. p x ≡ false) xs
none-found p [] e = tt
none-found p (x ∷ xs) e =
    elim (p x) as (λ b. p x ≡ b → (p x ≡ false) × AllByRecursion (λ y. p y ≡ false) xs) [
      | true ↦ λ is. absurd (none-some x (sym e ∙ ap (λ b. cond b (Some x) (find p xs)) is))
      | false ↦ λ is. (is, none-found p xs (sym (ap (λ b. cond b (Some x) (find p xs)) is) ∙ e))
    ] refl

-- what is found: it passes the test, and nothing before it does
pub record IsFound {X : Type 0} (p : X → Bool) (xs : List X) (x : X) : Type 0 where
  pub place : ℕ
  pub within : place < length xs
  pub at : get_or xs place x ≡ x
  pub passes : p x ≡ true
  pub before : (k : ℕ) → k < place → p (get_or xs k x) ≡ false

pub found : {X : Type 0} (p : X → Bool) (xs : List X) (x : X) → find p xs ≡ Some x → IsFound p xs x
found p xs x e =
    let there = sym (find_at p xs) ∙ e in
    let at = get_or_from_slice_get xs (position_or_len p xs) x x there in
    let within = slice_get_within xs (position_or_len p xs) x there in
    record { place = position_or_len p xs; within = within; at = at; passes = ap p (sym at) ∙ passes_at_first p xs x within; before = λ k lt. fails_before_first p xs k x lt }

-- What holds of the elements so far, and of the next one, holds of one more; and once these are all, it holds of all.
pub each-more : {X : Type 0} (P : X → Type 0) (xs : List X) (i : ℕ) (e : X) → i < length xs → ((k : ℕ) (d : X) → k < i → P (get_or xs k d)) → P (get_or xs i e)
    → (k : ℕ) (d : X) → k < i + 1 → P (get_or xs k d)
each-more P xs i e within before one k d low =
    elim (cases_eq k i) [
      | inl same ↦ subst (λ n. P (get_or xs n d)) (sym same) (subst P (get_or_default xs i e d within) one)
      | inr apart ↦ before k d (omega (arith, low, apart))
    ]

pub each-all : {X : Type 0} (P : X → Type 0) (xs : List X) (i : ℕ) → length xs ≤ i → ((k : ℕ) (d : X) → k < i → P (get_or xs k d)) → All P xs
each-all P xs i past before k d within = before k d (omega (arith, past, within))
