-- Decimal digits, one after the other.
use Rattle.lapd_text.proofs.Vocabulary.{◌≡◌, ℕ, ◌+◌, ◌<◌, ◌≤◌, ◌^◌, ◌/◌, ◌%◌, List, [], ◌∷◌, ◌++◌, length, sym, ap, ◌∙◌, subst, arith, decimal, decimal_digit, decimal_step, length-decimal-le}

pub one_digit : (n : ℕ) → n < 10 → (48 + n) ∷ [] ≡ decimal n
one_digit n h = sym (decimal_digit n h)

pub last_digit : (n : ℕ) (front : List ℕ) → 10 ≤ n → n < 2 ^ 64 → front ≡ decimal (n / 10) → front ++ (48 + n % 10) ∷ [] ≡ decimal n
last_digit n front h small e = ap (λ digits. digits ++ (48 + n % 10) ∷ []) e ∙ sym (decimal_step n h (omega (arith, small)))

pub few_digits : (n : ℕ) (front : List ℕ) → n < 2 ^ 64 → front ≡ decimal (n / 10) → length front < 20
few_digits n front small e =
    subst (λ digits. length digits < 20) (sym e) (omega (arith, length-decimal-le 19 (n / 10) (omega arith) (omega (arith, small)) (omega (arith, small))))
