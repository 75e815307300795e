-- In a table of fewer than 63 places not all of 63 TEIs can stand.
use Rattle.model_teis.proofs.OfNetwork.Vocabulary.{◌≡◌, ℕ, zero, suc, ◌+◌, ◌≤◌, ◌<◌, ◌==◌, ◌||◌, Bool, true, false, not, cond, [], ◌∷◌, length, Option, Some, None, IsSome, refl, sym, arith, find, range_with_len, nat_tests, none-some, Places, is_on, is_off}

-- how many of n numbers, from a on, pass a test
count_in : (ℕ → Bool) → ℕ → ℕ → ℕ
count_in p a zero = 0
count_in p a (suc n) = cond (p a) 1 0 + count_in p (a + 1) n

-- all do where none is found that does not
all_in : (places : Places) (a n : ℕ) → find (is_off places) (range_with_len a n) ≡ None → count_in (λ k. is_on k places) a n ≡ n
unfolding count_in
all_in places a zero e = refl
all_in places a (suc n) e =
    elim (is_on a places) as (λ b. cond (not b) (Some a) (find (is_off places) (range_with_len (a + 1) n)) ≡ None → cond b 1 0 + count_in (λ k. is_on k places) (a + 1) n ≡ suc n) [
      | true ↦ λ rest. omega (arith, all_in places (a + 1) n rest)
      | false ↦ λ rest. absurd (none-some a (sym rest))
    ] e

-- one number is in the range at most once, and not at all where the range begins behind it
once_in : (own a n : ℕ) → (own < a → count_in (λ k. own == k) a n ≡ 0) × (count_in (λ k. own == k) a n ≤ 1)
unfolding count_in
once_in own a zero = (λ less. refl, omega arith)
once_in own a (suc n) =
    let later = once_in own (a + 1) n in
    elim (own == a) as (λ b. (own == a) ≡ b → (own < a → cond b 1 0 + count_in (λ k. own == k) (a + 1) n ≡ 0) × (cond b 1 0 + count_in (λ k. own == k) (a + 1) n ≤ 1)) [
      | true ↦ λ is.
          let same : own ≡ a = grind (arith, nat_tests) in
          (λ less. absurd (omega arith), omega (arith, later.0 (omega arith)))
      | false ↦ λ is. (λ less. omega (arith, later.0 (omega arith)), omega (arith, later.1))
    ] refl

none_in : (a n : ℕ) → count_in (λ k. is_on k []) a n ≡ 0
unfolding count_in
none_in a zero = refl
none_in a (suc n) = omega (arith, none_in (a + 1) n)

more_in : (own : ℕ) (places : Places) (a n : ℕ) → count_in (λ k. is_on k (Some own ∷ places)) a n ≤ count_in (λ k. own == k) a n + count_in (λ k. is_on k places) a n
unfolding count_in
more_in own places a zero = omega arith
more_in own places a (suc n) =
    let later = more_in own places (a + 1) n in
    elim (own == a) as (λ b. cond (b || is_on a places) 1 0 + count_in (λ k. is_on k (Some own ∷ places)) (a + 1) n ≤ (cond b 1 0 + count_in (λ k. own == k) (a + 1) n) + (cond (is_on a places) 1 0 + count_in (λ k. is_on k places) (a + 1) n)) [
      | true ↦ omega (arith, later)
      | false ↦ omega (arith, later)
    ]

-- so a table has at most as many of them as it has places
fits_in : (places : Places) (a n : ℕ) → count_in (λ k. is_on k places) a n ≤ length places
fits_in [] a n = omega (arith, none_in a n)
fits_in (None ∷ places) a n = omega (arith, fits_in places a n)
fits_in (Some own ∷ places) a n = omega (arith, fits_in places a n, more_in own places a n, (once_in own a n).1)

found_in : (places : Places) (a n : ℕ) → length places < n → (o : Option ℕ) → find (is_off places) (range_with_len a n) ≡ o → IsSome o
found_in places a n few None e = absurd (omega (arith, fits_in places a n, all_in places a n e))
found_in places a n few (Some tei) e = refl

pub one_is_free : (places : Places) (a n : ℕ) → length places < n → IsSome (find (is_off places) (range_with_len a n))
one_is_free places a n few = found_in places a n few (find (is_off places) (range_with_len a n)) refl
