-- Sums of polynomials over two values.
use Rattle.model_bits.proofs.Vocabulary.{◌≡◌, ℕ, suc, Bool, true, false, not, List, [], ◌∷◌, ◌++◌, length, replicate, map, refl, sym, ap, ◌∙◌, arith, beq, plus}

-- ---- two coefficients

-- their order is free
pub differ-comm : (a b : Bool) → not (beq a b) ≡ not (beq b a)
differ-comm a b = grind arith

-- and so is their grouping
differ-assoc : (a b c : Bool) → not (beq (not (beq a b)) c) ≡ not (beq a (not (beq b c)))
differ-assoc a b c = grind arith

-- adding 0 changes nothing
differ-false : (a : Bool) → not (beq a false) ≡ a
differ-false a = grind arith

-- what is added to itself falls out
pub differ_self : (a : Bool) → not (beq a a) ≡ false
differ_self a = grind arith

-- ---- two polynomials

-- the order of two is free
pub plus-comm : (p q : List Bool) → plus p q ≡ plus q p
plus-comm [] [] = refl
plus-comm [] (b ∷ q) = refl
plus-comm (a ∷ p) [] = refl
plus-comm (a ∷ p) (b ∷ q) = rw (differ-comm a b, plus-comm p q) refl

-- the grouping of three is free
pub plus-assoc : (p q r : List Bool) → plus (plus p q) r ≡ plus p (plus q r)
plus-assoc [] q r = refl
plus-assoc (a ∷ p) [] r = refl
plus-assoc (a ∷ p) (b ∷ q) [] = refl
plus-assoc (a ∷ p) (b ∷ q) (c ∷ r) = rw (differ-assoc a b c, plus-assoc p q r) refl

-- the last two of three change places
pub plus_last_two : (p q r : List Bool) → plus (plus p q) r ≡ plus (plus p r) q
plus_last_two p q r = plus-assoc p q r ∙ ap (λ l. plus p l) (plus-comm q r) ∙ sym (plus-assoc p r q)

-- the inner two of four change places
pub plus-swap : (p q r s : List Bool) → plus (plus p q) (plus r s) ≡ plus (plus p r) (plus q s)
plus-swap p q r s = grind (arith, plus-assoc, plus_last_two)

-- a sum is as long as its parts
pub length-plus : (p q : List Bool) → length p ≡ length q → length (plus p q) ≡ length p
length-plus [] [] same = refl
length-plus [] (b ∷ q) same = refl
length-plus (a ∷ p) [] same = absurd (omega arith)
length-plus (a ∷ p) (b ∷ q) same = ap suc (length-plus p q (omega arith))

-- a sum goes part by part
pub plus-append : (p q r s : List Bool) → length p ≡ length q → plus (p ++ r) (q ++ s) ≡ plus p q ++ plus r s
plus-append [] [] r s same = refl
plus-append [] (b ∷ q) r s same = absurd (omega arith)
plus-append (a ∷ p) [] r s same = absurd (omega arith)
plus-append (a ∷ p) (b ∷ q) r s same =
    let rest : length p ≡ length q = omega arith in
    ap (λ l. not (beq a b) ∷ l) (plus-append p q r s rest)

-- adding zeros changes nothing
pub plus-zeros : (p : List Bool) → plus p (replicate (length p) false) ≡ p
plus-zeros [] = refl
plus-zeros (a ∷ p) = rw (differ-false a, plus-zeros p) refl

-- the same for a known number of zeros
pub plus_zeros_of : (p : List Bool) (n : ℕ) → length p ≡ n → plus p (replicate n false) ≡ p
plus_zeros_of p n size = ap (λ k. plus p (replicate k false)) (sym size) ∙ plus-zeros p

-- what is added to itself falls out
pub plus_self : (p : List Bool) → plus p p ≡ replicate (length p) false
plus_self [] = refl
plus_self (a ∷ p) = rw (differ_self a, plus_self p) refl

-- what is added twice falls out
pub plus_twice : (p q : List Bool) → length p ≡ length q → plus (plus p q) q ≡ p
plus_twice p q same = grind (arith, plus-assoc, plus_self, plus-zeros)

-- a sum and one of its parts determine the other
pub plus-injective :
    (p q r : List Bool) → length p ≡ length r → length q ≡ length r → plus p r ≡ plus q r → p ≡ q
plus-injective p q r p_size q_size same =
    sym (plus_twice p r p_size) ∙ ap (λ l. plus l r) same ∙ plus_twice q r q_size

-- ---- complements

-- adding 1 turns a coefficient round
differ-true : (a : Bool) → not (beq true a) ≡ not a
differ-true a = grind arith

-- a coefficient and its complement make 1
differ-not : (a : Bool) → not (beq (not a) a) ≡ true
differ-not a = grind arith

-- ones turn every coefficient round
pub plus-ones : (p : List Bool) → plus (replicate (length p) true) p ≡ map not p
plus-ones [] = refl
plus-ones (a ∷ p) = rw (differ-true a, plus-ones p) refl

-- a polynomial and its complement make ones
pub plus-not : (p : List Bool) → plus (map not p) p ≡ replicate (length p) true
plus-not [] = refl
plus-not (a ∷ p) = rw (differ-not a, plus-not p) refl
