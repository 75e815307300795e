-- How many elements of a list pass a test.
use Rattle.model_teis.proofs.OfTerminal.Vocabulary.{◌≡◌, ℕ, zero, suc, ◌+◌, ◌<◌, ◌≤◌, Bool, true, false, cond, List, [], ◌∷◌, length, get_or, ap, refl, arith, AllByRecursion, count_by, filter, list_any, list_any_at, false≢true, sym, ◌∙◌, sum_by-cons, get_or-le-sum_by, All, recursion_from_All, None, position, position_or_len, fails_before_first, common_steps}

module _ {X : Type 0} (p : X → Bool) where
  pub count-cons : (x : X) (xs : List X) → count_by p (x ∷ xs) ≡ cond {A = ℕ} (p x) 1 0 + count_by p xs
  count-cons x xs = sum_by-cons (λ y. cond (p y) 1 0) x xs

  pub count-filter : (q : X → Bool) (xs : List X) → count_by p (filter q xs) ≤ count_by p xs
  count-filter q [] = omega arith
  count-filter q (x ∷ xs) =
      let rest = count-filter q xs in
      let whole = count-cons x xs in
      let kept = count-cons x (filter q xs) in
      elim (q x) as (λ b. count_by p (cond b (x ∷ filter q xs) (filter q xs)) ≤ count_by p (x ∷ xs)) [
        | true ↦ omega (arith, rest, whole, kept)
        | false ↦ omega (arith, rest, whole)
      ]

  count_each : (xs : List X) → AllByRecursion (λ x. p x ≡ true) xs → count_by p xs ≡ length xs
  count_each [] all = refl
  count_each (x ∷ xs) all =
      let one : cond {A = ℕ} (p x) 1 0 ≡ 1 = ap (λ b. cond {A = ℕ} b 1 0) all.0 in
      omega (arith, one, count-cons x xs, count_each xs all.1)

  pub count-all : (xs : List X) → All (λ x. p x ≡ true) xs → count_by p xs ≡ length xs
  count-all xs all = count_each xs (recursion_from_All (λ x. p x ≡ true) xs all)

  count_no : (xs : List X) → AllByRecursion (λ x. p x ≡ false) xs → count_by p xs ≡ 0
  count_no [] all = refl
  count_no (x ∷ xs) all =
      let none : cond {A = ℕ} (p x) 1 0 ≡ 0 = ap (λ b. cond {A = ℕ} b 1 0) all.0 in
      omega (arith, none, count-cons x xs, count_no xs all.1)

  pub count-none : (xs : List X) → All (λ x. p x ≡ false) xs → count_by p xs ≡ 0
  count-none xs all = count_no xs (recursion_from_All (λ x. p x ≡ false) xs all)

  -- an element that passes counts
  counts_one : (xs : List X) (i : ℕ) (d : X) → i < length xs → p (get_or xs i d) ≡ true → 1 ≤ count_by p xs
  counts_one xs i d within passes =
      let one : cond {A = ℕ} (p (get_or xs i d)) 1 0 ≡ 1 = ap (λ b. cond {A = ℕ} b 1 0) passes in
      omega (arith, one, get_or-le-sum_by (λ x. cond {A = ℕ} (p x) 1 0) xs i d within)

  -- if at most one passes, it is at one place
  pub one_place : (xs : List X) (i j : ℕ) (d e : X) → count_by p xs ≤ 1 → i < length xs → j < length xs → p (get_or xs i d) ≡ true → p (get_or xs j e) ≡ true → i ≡ j
  one_place [] i j d e few within there first second = absurd (omega arith)
  one_place (x ∷ xs) zero zero d e few within there first second = refl
  one_place (x ∷ xs) zero (suc j) d e few within there first second =
      let one : cond {A = ℕ} (p x) 1 0 ≡ 1 = ap (λ b. cond {A = ℕ} b 1 0) first in
      absurd (omega (arith, one, count-cons x xs, counts_one xs j e (omega arith) second))
  one_place (x ∷ xs) (suc i) zero d e few within there first second =
      let one : cond {A = ℕ} (p x) 1 0 ≡ 1 = ap (λ b. cond {A = ℕ} b 1 0) second in
      absurd (omega (arith, one, count-cons x xs, counts_one xs i d (omega arith) first))
  one_place (x ∷ xs) (suc i) (suc j) d e few within there first second =
      ap suc (one_place xs i j d e (omega (arith, count-cons x xs)) (omega arith) (omega arith) first second)

  -- no element passes if none is found
  pub none-passes : (xs : List X) → list_any p xs ≡ false → All (λ x. p x ≡ false) xs
  none-passes xs none k d l =
      elim (p (get_or xs k d)) as (λ b. p (get_or xs k d) ≡ b → b ≡ false) [
        | true ↦ λ e. absurd (false≢true (sym none ∙ list_any_at p xs k d l e))
        | false ↦ λ e. refl
      ] refl

  pub nowhere : (xs : List X) → position p xs ≡ None → All (λ x. p x ≡ false) xs
  nowhere xs none k d l =
      let beyond : length xs ≤ position_or_len p xs = grind (arith, common_steps) in
      fails_before_first p xs k d (omega arith)
