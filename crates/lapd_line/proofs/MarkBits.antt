-- The bits of marks.
use Rattle.lapd_line.proofs.Vocabulary.{◌≡◌, ◌≢◌, ℕ, ◌+◌, ◌-◌, ◌/◌, ◌^◌, ◌≤◌, ◌<◌, ap, ◌∙◌, arith, shr-shr, div-le_self, bit_at-zero, bit_at-trailing_zeros, bit_at, trailing_zeros, NoneFrom, IsLowestFrom, digit, true, false, eqb-true, not, ◌==◌, refl, inl, inr, bit_at_above, Marks, Option, Some, MatchOption, cases_lt, IsFirstAround}
use Rattle.std.specs.Int.{w64}

-- a bit is 1 exactly where it is a mark
pub one_bit : (x : ℕ) → x < 2 → x ≡ digit (x == 1)
one_bit x low = grind arith

-- a bit of what is left from one bit on
shifted_bit : (n from number : ℕ) → from ≤ number → bit_at n number ≡ bit_at (n / 2 ^ from) (number - from)
shifted_bit n from number low = grind (arith, shr-shr)

-- where nothing is left, there is none
pub none_from : (n from : ℕ) → n / 2 ^ from ≡ 0 → NoneFrom n from
none_from n from none = λ number low. shifted_bit n from number low ∙ ap (λ x. bit_at x (number - from)) none ∙ bit_at-zero (number - from)

-- else the lowest bit of what is left is the lowest
pub lowest_from : (n from : ℕ) → n / 2 ^ from ≢ 0 → n < 2 ^ 64 → IsLowestFrom n from (from + trailing_zeros w64 (n / 2 ^ from))
lowest_from n from some fits =
    let rest = n / 2 ^ from in
    let lowest = bit_at-trailing_zeros w64 rest (omega (arith, some)) (omega (arith, fits, div-le_self n (2 ^ from))) in
    let back : from + trailing_zeros w64 rest - from ≡ trailing_zeros w64 rest = omega arith in (
      omega arith,
      shifted_bit n from (from + trailing_zeros w64 rest) (omega arith) ∙ ap (bit_at rest) back ∙ lowest.1,
      λ other low below. shifted_bit n from other low ∙ lowest.2 (other - from) (omega (arith, low, below)),
    )

-- whether a number has a bit that is 1
pub none_marked : (n : ℕ) → not (n == 0) ≡ false → (number : ℕ) → number < 64 → bit_at n number ≡ 0
none_marked n none number few = grind (arith, eqb-true, bit_at-zero)

pub some_marked : (n : ℕ) → n < 2 ^ 64 → not (n == 0) ≡ true → (number : ℕ) × (number < 64) × (bit_at n number ≡ 1)
some_marked n fits some =
    let lowest = bit_at-trailing_zeros w64 n (over n some) fits in
    (trailing_zeros w64 n, lowest.0, lowest.1)
  where
    over : (n : ℕ) → not (n == 0) ≡ true → 0 < n
    over n h = grind arith

-- only a bit below 64 is 1
pub low_bit : (n number : ℕ) → n < 2 ^ 64 → bit_at n number ≡ 1 → number < 64
low_bit n number fits one = elim (cases_lt number 64) [
  | inl low ↦ low
  | inr high ↦ absurd (omega (arith, one, bit_at_above n 64 number fits high))
]

-- the first that is marked, going round
pub around_behind : (m : Marks) (turn number : ℕ) → number < 64 → IsLowestFrom m.bits turn number → IsFirstAround m turn 64 (Some number)
around_behind m turn number few (low, one, others) = (Some number, ((low, few, one), others), refl)

pub around_before : (m : Marks) (turn : ℕ) (first : Option ℕ) → NoneFrom m.bits turn → MatchOption first (NoneFrom m.bits 0) (IsLowestFrom m.bits 0) → IsFirstAround m turn 64 first
around_before m turn first behind none = grind (arith, cases_lt)
