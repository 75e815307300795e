-- The long division is linear.
use Rattle.model_bits.proofs.Vocabulary.{◌≡◌, ℕ, suc, zero, ◌+◌, Bool, true, false, not, List, [], ◌∷◌, ◌++◌, length, replicate, refl, sym, ap, ◌∙◌, append_assoc, append-nil, length-append, arith, beq, fold, length-replicate, plus, generator, brought_down, remainder}
use Rattle.model_bits.proofs.Division.Sums.{plus-assoc, plus_last_two, plus-swap, plus-append, plus_zeros_of, length-plus}

-- ---- one step

-- a step keeps the 16 coefficients
pub length-brought_down : (s : List Bool) (b : Bool) → length s ≡ 16 → length (brought_down s b) ≡ 16
length-brought_down s b size = grind (arith, length-append, length-plus)

-- a sum of two that are each one coefficient longer
pushed-plus :
    (r q : List Bool) (a b : Bool) → length r ≡ length q
    → plus (r ++ a ∷ []) (q ++ b ∷ []) ≡ plus r q ++ not (beq a b) ∷ []
pushed-plus r q a b same = plus-append r q (a ∷ []) (b ∷ []) same

-- a step of a sum is the sum of the steps
pub brought_down-plus :
    (s t : List Bool) (a b : Bool) → length s ≡ 16 → length t ≡ 16
    → brought_down (plus s t) (not (beq a b)) ≡ plus (brought_down s a) (brought_down t b)
brought_down-plus [] t a b s_size t_size = absurd (omega arith)
brought_down-plus (x ∷ r) [] a b s_size t_size = absurd (omega arith)
brought_down-plus (false ∷ r) (false ∷ q) a b s_size t_size = sym (pushed-plus r q a b (omega arith))
brought_down-plus (false ∷ r) (true ∷ q) a b s_size t_size =
    ap (λ l. plus l generator) (sym (pushed-plus r q a b (omega arith)))
    ∙ plus-assoc (r ++ a ∷ []) (q ++ b ∷ []) generator
brought_down-plus (true ∷ r) (false ∷ q) a b s_size t_size =
    ap (λ l. plus l generator) (sym (pushed-plus r q a b (omega arith)))
    ∙ plus_last_two (r ++ a ∷ []) (q ++ b ∷ []) generator
brought_down-plus (true ∷ r) (true ∷ q) a b s_size t_size =
    let sum_size : length (plus (r ++ a ∷ []) (q ++ b ∷ [])) ≡ 16 =
    ap length (pushed-plus r q a b (omega arith))
    ∙ omega (arith, length-append (plus r q) (not (beq a b) ∷ []), length-plus r q (omega arith)) in
    sym (pushed-plus r q a b (omega arith))
    ∙ sym (plus_zeros_of (plus (r ++ a ∷ []) (q ++ b ∷ [])) 16 sum_size)
    ∙ plus-swap (r ++ a ∷ []) (q ++ b ∷ []) generator generator

-- ---- the whole division

-- the division keeps the 16 coefficients
pub length-divided : (p s : List Bool) → length s ≡ 16 → length (fold brought_down s p) ≡ 16
length-divided [] s size = size
length-divided (b ∷ p) s size = length-divided p (brought_down s b) (length-brought_down s b size)

-- a remainder has 16 coefficients
pub length-remainder : (p : List Bool) → length (remainder p) ≡ 16
length-remainder p = length-divided p (replicate 16 false) refl

-- the division of a sum is the sum of the divisions, from any two beginnings
divided-plus :
    (p q s t : List Bool) → length p ≡ length q → length s ≡ 16 → length t ≡ 16
    → fold brought_down (plus s t) (plus p q) ≡ plus (fold brought_down s p) (fold brought_down t q)
divided-plus [] [] s t same s_size t_size = refl
divided-plus [] (b ∷ q) s t same s_size t_size = absurd (omega arith)
divided-plus (a ∷ p) [] s t same s_size t_size = absurd (omega arith)
divided-plus (a ∷ p) (b ∷ q) s t same s_size t_size =
    let rest : length p ≡ length q = omega arith in
    ap (λ l. fold brought_down l (plus p q)) (brought_down-plus s t a b s_size t_size)
    ∙ divided-plus p q (brought_down s a) (brought_down t b) rest
    (length-brought_down s a s_size) (length-brought_down t b t_size)

-- the remainder of a sum is the sum of the remainders
pub remainder-plus : (p q : List Bool) → length p ≡ length q → remainder (plus p q) ≡ plus (remainder p) (remainder q)
remainder-plus p q same = divided-plus p q (replicate 16 false) (replicate 16 false) same refl refl

-- ---- what divides itself

-- coefficients that find as many zeros before them only move up
divided_few : (v u : List Bool) → fold brought_down (replicate (length v) false ++ u) v ≡ u ++ v
divided_few [] u = sym (append-nil u)
divided_few (b ∷ v) u =
    ap (λ l. fold brought_down l v) (append_assoc (replicate (length v) false) u (b ∷ []))
    ∙ divided_few v (u ++ b ∷ [])
    ∙ append_assoc u (b ∷ []) v

-- sixteen coefficients are their own remainder
pub remainder_few : (v : List Bool) → length v ≡ 16 → remainder v ≡ v
remainder_few v size =
    ap (λ n. fold brought_down (replicate n false) v) (sym size)
    ∙ ap (λ l. fold brought_down l v) (sym (append-nil (replicate (length v) false)))
    ∙ divided_few v []

-- zeros leave nothing
pub divided_zeros : (n : ℕ) → fold brought_down (replicate 16 false) (replicate n false) ≡ replicate 16 false
divided_zeros zero = refl
divided_zeros (suc n) = divided_zeros n

-- a power above the remainder is the generator's other powers
pub remainder-one :
    (n : ℕ) (p : List Bool) → length p ≡ 16 + n
    → remainder (true ∷ p) ≡ remainder (plus p (generator ++ replicate n false))
remainder-one n p size =
    let same : length p ≡ length (generator ++ replicate n false) = omega (arith, length-replicate n false) in
    sym (remainder-plus (true ∷ p) (true ∷ (generator ++ replicate n false)) (ap suc same)
    ∙ ap (λ l. plus (remainder (true ∷ p)) l) (divided_zeros n)
    ∙ plus_zeros_of (remainder (true ∷ p)) 16 (length-remainder (true ∷ p)))
