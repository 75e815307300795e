-- A register as a number: its bits, the lowest first, against sums and shifts of polynomials.
use Rattle.lapd_bits.proofs.Vocabulary.{◌≡◌, ℕ, suc, zero, ◌-◌, ◌/◌, ◌%◌, ◌^◌, ◌<◌, not, nat_eq, [], ◌∷◌, map, refl, arith, bit_xor, beq, pow-suc, xor_shr, xor_mod, low_bits, plus}

-- ---- sums

-- `^` on single bits
differ-bits : (a b : ℕ) → a < 2 → b < 2 → nat_eq (bit_xor a b) 1 ≡ not (beq (nat_eq a 1) (nat_eq b 1))
differ-bits a b a_small b_small = grind arith

-- `^` is the sum of polynomials
pub low_bits-xor : (n x y : ℕ) → low_bits n (bit_xor x y) ≡ plus (low_bits n x) (low_bits n y)
unfolding low_bits
low_bits-xor zero x y = refl
low_bits-xor (suc n) x y =
    let lowest : bit_xor x y % 2 ≡ bit_xor (x % 2) (y % 2) = xor_mod x y 1 in
    let above : bit_xor x y / 2 ≡ bit_xor (x / 2) (y / 2) = xor_shr x y 1 in
    rw (lowest, above, differ-bits (x % 2) (y % 2) (omega arith) (omega arith), low_bits-xor n (x / 2) (y / 2)) refl

-- ---- complements

-- the complement of a single bit
nat_eq-not : (a : ℕ) → a < 2 → nat_eq (1 - a) 1 ≡ not (nat_eq a 1)
nat_eq-not a small = grind arith

-- `!` turns every bit round
pub low_bits-not : (n x : ℕ) → x < 2 ^ n → low_bits n (2 ^ n - 1 - x) ≡ map not (low_bits n x)
unfolding low_bits
low_bits-not zero x small = refl
low_bits-not (suc n) x small =
    let power = pow-suc 2 n in
    let lowest : (2 ^ suc n - 1 - x) % 2 ≡ 1 - x % 2 = omega arith in
    let above : (2 ^ suc n - 1 - x) / 2 ≡ 2 ^ n - 1 - x / 2 = omega arith in
    rw (lowest, above, nat_eq-not (x % 2) (omega arith), low_bits-not n (x / 2) (omega arith)) refl

-- ---- one bit

-- one low bit
pub low_bits-one : (x : ℕ) → low_bits 1 x ≡ nat_eq (x % 2) 1 ∷ []
unfolding low_bits
low_bits-one x = refl
