-- Lists in an order: what `put_in_order` and an insertion sort do to them.
use Rattle.lapd_clock.proofs.Vocabulary.{◌++◌, ◌≡◌, ℕ, suc, ◌+◌, Bool, true, false, cond, not, List, [], ◌∷◌, filter, count_by, refl, sym, ap, ◌∙◌, arith, sum_by-cons, sum_by-insert, IsStrictWeakOrder, AllByRecursion, prefix_len, insert, position_or_len, sum_by, put_in_order, IsInOrder, recursion_from_All, All-from_recursion}
use Rattle.std.proofs.lemmas.List.Elements as lists

-- a count over one more element
pub count_by-cons : {X : Type 0} (p : X → Bool) (x : X) (xs : List X) → count_by p (x ∷ xs) ≡ cond (p x) 1 0 + count_by p xs
count_by-cons p x xs = sum_by-cons (λ y. cond (p y) 1 0) x xs

-- what holds of all holds of what a filter keeps
pub All-filter : {X : Type 0} (P : X → Type 0) (p : X → Bool) (ys : List X) → AllByRecursion P ys → AllByRecursion P (filter p ys)
All-filter P p ys h = recursion_from_All P (filter p ys) (lists.All-filter p P ys (All-from_recursion P ys h))

-- what holds of two lists holds of both joined
pub All-append : {X : Type 0} (P : X → Type 0) (xs ys : List X) → AllByRecursion P xs → AllByRecursion P ys → AllByRecursion P (xs ++ ys)
All-append P [] ys h k = k
All-append P (x ∷ xs) ys h k = (h.0, All-append P xs ys h.1 k)

module _ {X : Type 0} (before : X → X → Bool) where
  -- x goes in front of an element that does not come before x
  pub put_in_order-here : (x y : X) (ys : List X) → before y x ≡ false → put_in_order before x (y ∷ ys) ≡ x ∷ y ∷ ys
  put_in_order-here x y ys e = ap (λ b. cond b (y ∷ put_in_order before x ys) (x ∷ y ∷ ys)) e

  -- what none comes before goes to the front
  pub put_in_order-first : (x : X) (ys : List X) → AllByRecursion (λ y. before y x ≡ false) ys → put_in_order before x ys ≡ x ∷ ys
  put_in_order-first x [] h = refl
  put_in_order-first x (y ∷ ys) h = put_in_order-here x y ys h.0

  -- two cases for the place of x at the front of a list
  pub by_place : (x y : X) (ys : List X) (G : List X → Type 0) → (before y x ≡ true → G (y ∷ put_in_order before x ys)) → (before y x ≡ false → G (x ∷ y ∷ ys)) → G (put_in_order before x (y ∷ ys))
  by_place x y ys G after here = grind arith

  -- what holds of all holds with one more in its place, and without it again
  pub All-put_in_order : (P : X → Type 0) (x : X) (ys : List X) → P x → AllByRecursion P ys → AllByRecursion P (put_in_order before x ys)
  All-put_in_order P x [] p h = (p, tt)
  All-put_in_order P x (y ∷ ys) p h = grind (arith, by_place, (All-put_in_order P x ys p h.1))

  pub All-from_put_in_order : (P : X → Type 0) (x : X) (ys : List X) → AllByRecursion P (put_in_order before x ys) → AllByRecursion P ys
  All-from_put_in_order P x [] = λ _. tt
  All-from_put_in_order P x (y ∷ ys) = grind (arith, by_place, (All-from_put_in_order P x ys))

  -- so of x itself
  pub All-own : (P : X → Type 0) (x : X) (ys : List X) → AllByRecursion P (put_in_order before x ys) → P x
  All-own P x [] = λ h. h.0
  All-own P x (y ∷ ys) = grind (arith, by_place, (All-own P x ys))

  one_more : (n : ℕ) → 1 + n ≡ suc n
  one_more n = omega arith

  -- the place is behind all that come before x
  pub insert-place : (x : X) (ys : List X) → insert ys (position_or_len (λ y. not (before y x)) ys) x ≡ put_in_order before x ys
  insert-place x [] = refl
  insert-place x (y ∷ ys) =
      elim (before y x) as (λ b. before y x ≡ b → insert (y ∷ ys) (cond (not (not b)) (1 + prefix_len (λ z. not (not (before z x))) ys) 0) x ≡ cond b (y ∷ put_in_order before x ys) (x ∷ y ∷ ys)) [
        | true ↦ λ _. rw (one_more (prefix_len (λ z. not (not (before z x))) ys)) (ap (λ zs. y ∷ zs) (insert-place x ys))
        | false ↦ λ _. refl
      ] refl

  -- and adds to a sum what x counts
  pub sum_by-put_in_order : (f : X → ℕ) (x : X) (ys : List X) → sum_by f (put_in_order before x ys) ≡ sum_by f ys + f x
  sum_by-put_in_order f x ys = ap (sum_by f) (sym (insert-place x ys)) ∙ sum_by-insert f ys _ x

  -- and to a count, and to the length
  pub count_by-put_in_order : (p : X → Bool) (x : X) (ys : List X) → count_by p (put_in_order before x ys) ≡ cond (p x) 1 0 + count_by p ys
  count_by-put_in_order p x ys = omega (arith, sum_by-put_in_order (λ y. cond (p y) 1 0) x ys)

  module _ (order : IsStrictWeakOrder before) where
    -- what does not come before y does not come before an x that y does not come before
    all_chain : (x y : X) (ys : List X) → before y x ≡ false → AllByRecursion (λ z. before z y ≡ false) ys → AllByRecursion (λ z. before z x ≡ false) ys
    all_chain x y [] e h = tt
    all_chain x y (z ∷ zs) e h = (order.chain z y x h.0 e, all_chain x y zs e h.1)

    -- an element in its place keeps the order
    pub IsInOrder-put_in_order : (x : X) (ys : List X) → IsInOrder before ys → IsInOrder before (put_in_order before x ys)
    IsInOrder-put_in_order x [] h = (tt, tt)
    IsInOrder-put_in_order x (y ∷ ys) h = grind (arith, by_place, All-put_in_order, all_chain, (IsInOrder-put_in_order x ys h.1))

    -- a filter keeps the order,
    pub IsInOrder-filter : (p : X → Bool) (ys : List X) → IsInOrder before ys → IsInOrder before (filter p ys)
    IsInOrder-filter p [] h = tt
    IsInOrder-filter p (y ∷ ys) h = grind (arith, All-filter, (IsInOrder-filter p ys h.1))

    -- and drops x, or keeps it in its place
    pub filter-put_in_order : (p : X → Bool) (x : X) (ys : List X) → IsInOrder before ys → filter p (put_in_order before x ys) ≡ cond (p x) (put_in_order before x (filter p ys)) (filter p ys)
    filter-put_in_order p x [] h = refl
    filter-put_in_order p x (y ∷ ys) h =
        grind (arith, by_place, put_in_order-first, All-filter, all_chain, (filter-put_in_order p x ys h.1))

    module _ (same : (x y : X) → before x y ≡ false → before y x ≡ false → x ≡ y) where
      -- two that both go to the front: the earlier one goes there
      meet : (x y : X) (us : List X) → put_in_order before x us ≡ x ∷ us → put_in_order before y us ≡ y ∷ us → put_in_order before x (y ∷ us) ≡ put_in_order before y (x ∷ us)
      meet x y us at_x at_y = grind (arith, by_place, put_in_order-here)

      -- x goes behind z, and y in front of it
      between : (x y z : X) (zs : List X) → before z x ≡ true → before z y ≡ false → put_in_order before x (put_in_order before y (z ∷ zs)) ≡ put_in_order before y (put_in_order before x (z ∷ zs))
      between x y z zs zx zy = grind (arith, put_in_order-here)

      -- it does not matter which of two goes to its place first
      pub put_in_order-swap : (x y : X) (zs : List X) → put_in_order before x (put_in_order before y zs) ≡ put_in_order before y (put_in_order before x zs)
      put_in_order-swap x y [] = meet x y [] refl refl
      put_in_order-swap x y (z ∷ zs) = grind (arith, between, put_in_order-here, meet, (put_in_order-swap x y zs))
