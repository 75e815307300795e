-- Numbers whose bits are what a test says of the numbers from one on.
use Rattle.std.proofs.Common.{◌≡◌, ℕ, zero, suc, ◌+◌, ◌*◌, ◌<◌, ◌≤◌, Bool, false, List, [], ◌∷◌, ◌++◌, map, refl, ap, ◌∙◌, arith}
use Rattle.std.specs.List.{range_with_len}
use Rattle.model_bits.specs.Bits.{bit_value, number_of}

-- nothing behind counts
number_of-none-behind : (bs cs : List Bool) → number_of cs ≡ 0 → number_of (bs ++ cs) ≡ number_of bs
number_of-none-behind [] cs e = e
number_of-none-behind (b ∷ bs) cs e = ap (λ n. bit_value b + 2 * n) (number_of-none-behind bs cs e)

-- Where the test holds of none, there is no bit.
pub number_of-none : (f : ℕ → Bool) (a n : ℕ) → ((k : ℕ) → a ≤ k → k < a + n → f k ≡ false) → number_of (map f (range_with_len a n)) ≡ 0
number_of-none f a zero none = refl
number_of-none f a (suc n) none =
    let here : f a ≡ false = none a (omega arith) (omega arith) in
    let rest = number_of-none f (a + 1) n (λ k from to. none k (omega (arith, from)) (omega (arith, to))) in
    λ i. bit_value (here i) + 2 * rest i

-- in two parts
in_parts : (f : ℕ → Bool) (a m n : ℕ) → map f (range_with_len a (m + n)) ≡ map f (range_with_len a m) ++ map f (range_with_len (a + m) n)
in_parts f a zero n =
    let all : 0 + n ≡ n = omega arith in
    let from : a ≡ a + 0 = omega arith in
    ap (λ k. map f (range_with_len a k)) all ∙ ap (λ k. map f (range_with_len k n)) from
in_parts f a (suc m) n =
    let all : suc m + n ≡ suc (m + n) = omega arith in
    let from : a + 1 + m ≡ a + suc m = omega arith in
    ap (λ k. map f (range_with_len a k)) all ∙ ap (λ l. f a ∷ l) (in_parts f (a + 1) m n ∙ ap (λ k. map f (range_with_len (a + 1) m) ++ map f (range_with_len k n)) from)

-- Where the test fails from one on, those before it are all that counts.
pub number_of-first : (f : ℕ → Bool) (count behind : ℕ) → ((k : ℕ) → count ≤ k → k < count + behind → f k ≡ false)
    → number_of (map f (range_with_len 0 (count + behind))) ≡ number_of (map f (range_with_len 0 count))
number_of-first f count behind none =
    ap number_of (in_parts f 0 count behind)
    ∙ number_of-none-behind (map f (range_with_len 0 count)) (map f (range_with_len (0 + count) behind)) (number_of-none f (0 + count) behind (λ k from to. none k (omega (arith, from)) (omega (arith, to))))

-- One more in front.
pub number_of-next : (f : ℕ → Bool) (j n waits : ℕ) → waits ≡ number_of (map f (range_with_len (j + 1) n)) → bit_value (f j) + 2 * waits ≡ number_of (map f (range_with_len j (suc n)))
number_of-next f j n waits e = ap (λ k. bit_value (f j) + 2 * k) e
