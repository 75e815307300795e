-- Sums over the TEIs, the places and the links of a line, and over the lines of a card.
use Rattle.laws_trace.proofs.Vocabulary.{◌≡◌, ℕ, zero, suc, ◌+◌, ◌*◌, ◌<◌, ◌≤◌, cond, nat_lt, List, [], ◌∷◌, length, get_or, Option, Some, None, refl, sym, ap, ◌∙◌, arith, range_with_len, sum_by-cons, le-ltb, lt-ltb, none-some, sum_by, option_map_or, sum_changed}

-- the same terms
pub sum-same : (f g : ℕ → ℕ) (a n : ℕ) → ((j : ℕ) → j < a + n → g j ≡ f j) → sum_by g (range_with_len a n) ≡ sum_by f (range_with_len a n)
sum-same f g a zero same = refl
sum-same f g a (suc n) same =
    let head : g a ≡ f a = same a (omega arith) in
    let rest = sum-same f g (a + 1) n (λ j below. same j (omega (arith, below))) in
    omega (arith, head, rest, sum_by-cons g a (range_with_len (a + 1) n), sum_by-cons f a (range_with_len (a + 1) n))

no-sum : (a n : ℕ) → sum_by (λ j. 0) (range_with_len a n) ≡ 0
no-sum a zero = refl
no-sum a (suc n) = omega (arith, no-sum (a + 1) n, sum_by-cons (λ j. 0) a (range_with_len (a + 1) n))

-- the sum of two
pub sum-both : (f g : ℕ → ℕ) (a n : ℕ) → sum_by (λ j. f j + g j) (range_with_len a n) ≡ sum_by f (range_with_len a n) + sum_by g (range_with_len a n)
sum-both f g a zero = refl
sum-both f g a (suc n) =
    omega (arith, sum-both f g (a + 1) n, sum_by-cons (λ j. f j + g j) a (range_with_len (a + 1) n), sum_by-cons g a (range_with_len (a + 1) n), sum_by-cons f a (range_with_len (a + 1) n))

-- one term more, at the end
sum-more : (f : ℕ → ℕ) (a n j : ℕ) → a + n ≡ j → sum_by f (range_with_len a (suc n)) ≡ sum_by f (range_with_len a n) + f j
sum-more f a zero j is =
    let here : f a ≡ f j = ap f (omega (arith, is)) in
    omega (arith, here, sum_by-cons f a [])
sum-more f a (suc n) j is =
    omega (arith, sum-more f (a + 1) n j (omega (arith, is)), sum_by-cons f a (range_with_len (a + 1) (suc n)), sum_by-cons f a (range_with_len (a + 1) n))

-- two links a place
pub sum-of-pairs : (f : ℕ → ℕ) (n : ℕ) → sum_by f (range_with_len 0 (2 * n)) ≡ sum_by (λ k. f (2 * k) + f (2 * k + 1)) (range_with_len 0 n)
sum-of-pairs f zero = refl
sum-of-pairs f (suc n) =
    let two : 2 * suc n ≡ suc (suc (2 * n)) = omega arith in
    let last = sum-more f 0 (suc (2 * n)) (2 * n + 1) (omega arith) in
    let other = sum-more f 0 (2 * n) (2 * n) (omega arith) in
    let pair = sum-more (λ k. f (2 * k) + f (2 * k + 1)) 0 n n (omega arith) in
    ap (λ m. sum_by f (range_with_len 0 m)) two ∙ omega (arith, last, other, pair, sum-of-pairs f n)

sum-behind : (f : ℕ → ℕ) (a n : ℕ) → sum_by f (range_with_len (a + 1) n) ≡ sum_by (λ j. f (suc j)) (range_with_len a n)
sum-behind f a zero = refl
sum-behind f a (suc n) =
    let head : f (a + 1) ≡ f (suc a) = ap f (omega arith) in
    omega (arith, head, sum-behind f (a + 1) n, sum_by-cons f (a + 1) (range_with_len (a + 1 + 1) n), sum_by-cons (λ j. f (suc j)) a (range_with_len (a + 1) n))

-- the things of a list
pub sum-of-all : {X : Type 0} (f : X → ℕ) (xs : List X) (d : X) → sum_by (λ j. f (get_or xs j d)) (range_with_len 0 (length xs)) ≡ sum_by f xs
sum-of-all f [] d = refl
sum-of-all f (x ∷ xs) d =
    omega (arith, sum_by-cons (λ j. f (get_or (x ∷ xs) j d)) 0 (range_with_len (0 + 1) (length xs)), sum-behind (λ j. f (get_or (x ∷ xs) j d)) 0 (length xs), sum-of-all f xs d, sum_by-cons f x xs)

-- What each place has is summed over the TEIs, where each TEI has one place, each place one TEI, and a free place has none.
module _ (q : ℕ → ℕ) (place tei_at : ℕ → Option ℕ) (teis places : ℕ)
    (there : (tei k : ℕ) → place tei ≡ Some k → tei_at k ≡ Some tei)
    (its : (tei k : ℕ) → tei_at k ≡ Some tei → (place tei ≡ Some k) × (tei < teis))
    (free : (k : ℕ) → k < places → tei_at k ≡ None → q k ≡ 0) where
  -- of the places below one
  abbrev below : ℕ → Option ℕ → ℕ
  below n o = option_map_or (λ k. cond (nat_lt k n) (q k) 0) o 0

  at-first : (o : Option ℕ) → below 0 o ≡ 0
  at-first o = grind arith

  others : (n tei : ℕ) → (tei_at n ≡ Some tei → ⊥) → (o : Option ℕ) → place tei ≡ o → below (suc n) o ≡ below n o
  others n tei apart o is = grind (arith, there)

  abbrev Summed : ℕ → Type 0
  Summed n = sum_by (λ tei. below n (place tei)) (range_with_len 0 teis) ≡ sum_by q (range_with_len 0 n)

  one-more : (n : ℕ) → n < places → Summed n → (o : Option ℕ) → tei_at n ≡ o → Summed (suc n)
  one-more n few so None at =
      sum-same (λ tei. below n (place tei)) (λ tei. below (suc n) (place tei)) 0 teis (λ tei less. others n tei (λ is. none-some tei (sym at ∙ is)) (place tei) refl)
      ∙ omega (arith, free n few at, so, sum-more q 0 n n (omega arith))
  one-more n few so (Some t) at =
      let here = its t n at in
      let now : below (suc n) (place t) ≡ q n = ap (below (suc n)) here.0 ∙ ap (λ b. cond b (q n) 0) (lt-ltb n (suc n) (omega arith)) in
      let before : below n (place t) ≡ 0 = ap (below n) here.0 ∙ ap (λ b. cond b (q n) 0) (le-ltb n n (omega arith)) in
      let changed = sum_changed (λ tei. below n (place tei)) (λ tei. below (suc n) (place tei)) 0 teis t (omega arith) (omega (arith, here.1))
      (λ tei apart. others n tei (λ is. apart (same-tei tei t (sym is ∙ at))) (place tei) refl) in
      omega (arith, changed, now, before, so, sum-more q 0 n n (omega arith))
    where
      same-tei : (x y : ℕ) → Some x ≡ Some y → x ≡ y
      same-tei x y e = cc e

  summed : (n : ℕ) → n ≤ places → Summed n
  summed zero few = sum-same (λ tei. 0) (λ tei. below 0 (place tei)) 0 teis (λ tei less. at-first (place tei)) ∙ no-sum 0 teis
  summed (suc n) few = one-more n (omega (arith, few)) (summed n (omega (arith, few))) (tei_at n) refl

  within : (tei : ℕ) (o : Option ℕ) → place tei ≡ o → ((k : ℕ) → place tei ≡ Some k → k < places) → option_map_or q o 0 ≡ below places o
  within tei o is few = grind (arith, lt-ltb)

  pub sum-of-places : ((tei k : ℕ) → place tei ≡ Some k → k < places) → sum_by (λ tei. option_map_or q (place tei) 0) (range_with_len 0 teis) ≡ sum_by q (range_with_len 0 places)
  sum-of-places few =
      sum-same (λ tei. below places (place tei)) (λ tei. option_map_or q (place tei) 0) 0 teis (λ tei less. within tei (place tei) refl (few tei)) ∙ summed places (omega arith)
