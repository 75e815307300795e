-- Numbers as bits, the lowest first, and back.
use Rattle.model_bits.proofs.Vocabulary.{◌≡◌, ℕ, suc, zero, ◌+◌, ◌*◌, ◌/◌, ◌%◌, ◌^◌, ◌<◌, Bool, true, false, List, [], ◌∷◌, ◌++◌, length, take, reverse, nat_eq, refl, sym, ap, subst, ◌∙◌, add-one, append_assoc, append-nil, length-append, arith, reverse-append, pow-suc, pow-succ', pow-zero, suc-add, zero-add, div-div-eq-div-mul, div-one, mod-eq_of_lt, eqb-true, eqb-false, mod-pow-add, low_bits}
use Rattle.model_bits.proofs.Vocabulary.{bits, bit_value, number_of, same_bits}

-- ---- the lowest bit

-- the lowest bit of a number, as a number
bit_value-lowest : (x : ℕ) → bit_value (nat_eq (x % 2) 1) ≡ x % 2
bit_value-lowest x = grind (arith, nat_eq, eqb-true, eqb-false)

-- a bit below other bits is the lowest one
lowest-of_pair : (b : Bool) (n : ℕ) → nat_eq ((bit_value b + 2 * n) % 2) 1 ≡ b
lowest-of_pair b n = grind (arith, nat_eq)

-- and what is above it are the other bits
above-of_pair : (b : Bool) (n : ℕ) → (bit_value b + 2 * n) / 2 ≡ n
above-of_pair b n = grind arith

-- the rest of a division by a power of two, by its lowest bit
rest-by_lowest : (n x : ℕ) → x % 2 ^ suc n ≡ x / 2 % 2 ^ n * 2 + x % 2
rest-by_lowest n x = subst (λ k. x % 2 ^ k ≡ x / 2 % 2 ^ n * 2 + x % 2) (add-one n) (mod-pow-add x n 1)

-- ---- the low bits of a number

-- there are as many as were asked for
pub length-low_bits : (n x : ℕ) → length (low_bits n x) ≡ n
unfolding low_bits
length-low_bits zero x = refl
length-low_bits (suc n) x = ap suc (length-low_bits n (x / 2))

-- the low bits of a number are those of the part below and those of the part above
pub low_bits-add : (m n x : ℕ) → low_bits (m + n) x ≡ low_bits m x ++ low_bits n (x / 2 ^ m)
unfolding low_bits
low_bits-add zero n x = rw (zero-add, pow-zero, div-one) refl
low_bits-add (suc m) n x =
    rw (suc-add, pow-succ')
    (ap (λ l. nat_eq (x % 2) 1 ∷ l)
    (low_bits-add m n (x / 2) ∙ ap (λ y. low_bits m (x / 2) ++ low_bits n y) (div-div-eq-div-mul x 2 (2 ^ m))))

-- what stands above them changes nothing
pub low_bits-mod : (n x : ℕ) → low_bits n (x % 2 ^ n) ≡ low_bits n x
unfolding low_bits
low_bits-mod zero x = refl
low_bits-mod (suc n) x =
    let parts = rest-by_lowest n x in
    let same_lowest : x % 2 ^ suc n % 2 ≡ x % 2 = omega arith in
    let same_above : x % 2 ^ suc n / 2 ≡ x / 2 % 2 ^ n = omega arith in
    rw (same_lowest, same_above) (ap (λ l. nat_eq (x % 2) 1 ∷ l) (low_bits-mod n (x / 2)))

-- sixteen bits are those of the low octet and those of the high one
pub low_bits-two_octets : (x : ℕ) → low_bits 16 x ≡ low_bits 8 (x % 256) ++ low_bits 8 (x / 256)
low_bits-two_octets x =
    low_bits-add 8 8 x ∙ ap (λ l. l ++ low_bits 8 (x / 256)) (sym (low_bits-mod 8 x))

-- ---- the bits of octets

-- those of two texts, one after the other
pub bits-append : (a b : List ℕ) → bits (a ++ b) ≡ bits a ++ bits b
bits-append [] b = refl
bits-append (x ∷ a) b =
    ap (λ l. low_bits 8 x ++ l) (bits-append a b) ∙ sym (append_assoc (low_bits 8 x) (bits a) (bits b))

-- one octet more at the end
pub bits-push : (a : List ℕ) (x : ℕ) → bits (a ++ x ∷ []) ≡ bits a ++ low_bits 8 x
bits-push a x = bits-append a (x ∷ []) ∙ ap (λ l. bits a ++ l) (append-nil (low_bits 8 x))

-- the same with the latest bit first
pub reverse-bits_push : (a : List ℕ) (x : ℕ) → reverse (bits (a ++ x ∷ [])) ≡ reverse (low_bits 8 x) ++ reverse (bits a)
reverse-bits_push a x = ap reverse (bits-push a x) ∙ reverse-append (bits a) (low_bits 8 x)

-- a number of 16 bits, low octet first
pub bits-two_octets : (x : ℕ) → bits (x % 256 ∷ x / 256 ∷ []) ≡ low_bits 16 x
bits-two_octets x = grind (arith, append-nil, low_bits-two_octets)

-- eight for each octet
pub length-bits : (a : List ℕ) → length (bits a) ≡ 8 * length a
length-bits [] = refl
length-bits (x ∷ a) = simp length-append (omega (arith, length-low_bits 8 x, length-bits a))

-- ---- bits as a number

-- n bits make a number below 2 ^ n
pub number_of-lt : (b : List Bool) → number_of b < 2 ^ length b
number_of-lt [] = omega arith
number_of-lt (true ∷ b) = omega (arith, pow-suc 2 (length b), number_of-lt b)
number_of-lt (false ∷ b) = omega (arith, pow-suc 2 (length b), number_of-lt b)

-- the number of bits gives the bits back
pub low_bits-number_of : (b : List Bool) → low_bits (length b) (number_of b) ≡ b
unfolding low_bits
low_bits-number_of [] = refl
low_bits-number_of (x ∷ b) =
    rw (lowest-of_pair x (number_of b), above-of_pair x (number_of b))
    (ap (λ l. x ∷ l) (low_bits-number_of b))

-- the same for a known number of bits, as 8
pub low_bits-number_of_n : (n : ℕ) (b : List Bool) → length b ≡ n → low_bits n (number_of b) ≡ b
low_bits-number_of_n n b size = rw (← size) (low_bits-number_of b)

-- the low bits of a number make the rest of the division by 2 ^ n
pub number_of-low_bits_mod : (n x : ℕ) → number_of (low_bits n x) ≡ x % 2 ^ n
unfolding low_bits
number_of-low_bits_mod zero x = omega arith
number_of-low_bits_mod (suc n) x =
    rw (bit_value-lowest x, number_of-low_bits_mod n (x / 2)) (omega (arith, rest-by_lowest n x))

-- the bits of a number give the number back
pub number_of-low_bits : (n x : ℕ) → x < 2 ^ n → number_of (low_bits n x) ≡ x
number_of-low_bits n x small = number_of-low_bits_mod n x ∙ mod-eq_of_lt small

-- an octet is the number of its eight bits, whatever follows them
pub number_of-octet : (octet : ℕ) (more : List Bool) → octet < 256 → number_of (take 8 (low_bits 8 octet ++ more)) ≡ octet
unfolding low_bits
number_of-octet octet more small = number_of-low_bits 8 octet small

-- two numbers below 2 ^ n with the same n low bits are one
pub same_from_low_bits : (n x y : ℕ) → x < 2 ^ n → y < 2 ^ n → low_bits n x ≡ low_bits n y → x ≡ y
same_from_low_bits n x y x_small y_small same =
    sym (number_of-low_bits n x x_small) ∙ ap number_of same ∙ number_of-low_bits n y y_small

-- ---- the test for the same bits

-- it holds of bits and themselves
pub same_bits_self : (a : List Bool) → same_bits a a ≡ true
same_bits_self [] = refl
same_bits_self (true ∷ a) = same_bits_self a
same_bits_self (false ∷ a) = same_bits_self a

-- and of no others
pub same_from_test : (a b : List Bool) → same_bits a b ≡ true → a ≡ b
same_from_test [] [] same = refl
same_from_test (true ∷ a) (true ∷ b) same = ap (λ l. true ∷ l) (same_from_test a b same)
same_from_test (false ∷ a) (false ∷ b) same = ap (λ l. false ∷ l) (same_from_test a b same)
same_from_test _ _ same = cc

-- numbers below 2 ^ n have the same n low bits where they are one
pub same_bits-low_bits :
    (n x y : ℕ) → x < 2 ^ n → y < 2 ^ n → same_bits (low_bits n x) (low_bits n y) ≡ nat_eq x y
same_bits-low_bits n x y x_small y_small = grind (arith, nat_eq, eqb-false, same_from_low_bits, same_from_test, eqb-true, same_bits_self)
