-- The check of a text is the only one.
use Rattle.model_bits.proofs.Vocabulary.{◌≡◌, ℕ, suc, zero, Bool, true, false, not, List, [], ◌∷◌, ◌++◌, length, replicate, map, refl, sym, ap, ◌∙◌, arith, fold, same_from_push, length-map, fold-append, plus, generator, brought_down, remainder, dividend, check, residue, is_good, OnlyCheck}
use Rattle.model_bits.proofs.BitLemmas.{same_from_test}
use Rattle.model_bits.proofs.Division.Sums.{plus-append, plus_twice, plus-injective, length-plus, plus-ones, plus-not}
use Rattle.model_bits.proofs.Division.Linear.{length-brought_down, length-remainder, remainder_few}
use Rattle.model_bits.proofs.Division.Register.{with_bit, remainder-text_below, remainder-dividend-append}

-- ---- nothing is lost where zeros are brought down

-- the generator without its lowest power, which is 1
generator_front : List Bool
generator_front =
    false ∷ false ∷ false ∷ true ∷ false ∷ false ∷ false ∷ false
    ∷ false ∷ false ∷ true ∷ false ∷ false ∷ false ∷ false ∷ []

-- with the generator taken off the lowest coefficient is 1
pushed-generator :
    (r : List Bool) → length r ≡ 15 → plus (r ++ false ∷ []) generator ≡ plus r generator_front ++ true ∷ []
unfolding generator_front
pushed-generator r size = plus-append r generator_front (false ∷ []) (true ∷ []) size

-- a step with a 0 brought down determines what it began with: the lowest coefficient tells the highest
brought_down-injective :
    (s t : List Bool) → length s ≡ 16 → length t ≡ 16 → brought_down s false ≡ brought_down t false → s ≡ t
unfolding generator_front
brought_down-injective [] t s_size t_size same = absurd (omega arith)
brought_down-injective (x ∷ r) [] s_size t_size same = absurd (omega arith)
brought_down-injective (false ∷ r) (false ∷ q) s_size t_size same =
    ap (λ l. false ∷ l) ((same_from_push r q false false same).0)
brought_down-injective (true ∷ r) (true ∷ q) s_size t_size same =
    let fronts = same_from_push (plus r generator_front) (plus q generator_front) true true
    (sym (pushed-generator r (omega arith)) ∙ same ∙ pushed-generator q (omega arith)) in
    ap (λ l. true ∷ l) (plus-injective r q generator_front (omega arith) (omega arith) fronts.0)
brought_down-injective (true ∷ r) (false ∷ q) s_size t_size same =
    let last : true ≡ false = (same_from_push (plus r generator_front) q true false (sym (pushed-generator r (omega arith)) ∙ same)).1 in
    cc
brought_down-injective (false ∷ r) (true ∷ q) s_size t_size same =
    let last : false ≡ true = (same_from_push r (plus q generator_front) false true (same ∙ pushed-generator q (omega arith))).1 in
    cc

-- and so do many such steps
zeros_down-injective :
    (n : ℕ) (s t : List Bool) → length s ≡ 16 → length t ≡ 16
    → fold brought_down s (replicate n false) ≡ fold brought_down t (replicate n false) → s ≡ t
zeros_down-injective zero s t s_size t_size same = same
zeros_down-injective (suc n) s t s_size t_size same =
    brought_down-injective s t s_size t_size
    (zeros_down-injective n (brought_down s false) (brought_down t false)
    (length-brought_down s false s_size) (length-brought_down t false t_size) same)

-- ---- sixteen bits more

-- what a register holds after sixteen bits is their sum with it, and sixteen zeros brought down
with_word :
    (s x : List Bool) → length s ≡ 16 → length x ≡ 16
    → fold with_bit s x ≡ fold brought_down (plus x s) (replicate 16 false)
with_word s x s_size x_size =
    sym (remainder-text_below x s s_size)
    ∙ ap (λ n. remainder (plus (x ++ replicate 16 false) (s ++ replicate n false))) x_size
    ∙ ap remainder (plus-append x s (replicate 16 false) (replicate 16 false) (x_size ∙ sym s_size))
    ∙ fold-append brought_down (replicate 16 false) (plus x s) (replicate 16 false)
    ∙ ap (λ l. fold brought_down l (replicate 16 false))
    (remainder_few (plus x s) (length-plus x s (x_size ∙ sym s_size) ∙ x_size))

-- the residue is what sixteen ones leave
with_complement : (s : List Bool) → length s ≡ 16 → fold with_bit s (map not s) ≡ residue
with_complement s size = grind (arith, with_word, length-map, plus-not)

-- and nothing else leaves it
only_complement : (s x : List Bool) → length s ≡ 16 → length x ≡ 16 → fold with_bit s x ≡ residue → x ≡ map not s
only_complement s x s_size x_size good =
    let ones : plus x s ≡ replicate 16 true =
    zeros_down-injective 16 (plus x s) (replicate 16 true) (length-plus x s (x_size ∙ sym s_size) ∙ x_size) refl
    (sym (with_word s x s_size x_size) ∙ good) in
    sym (plus_twice x s (x_size ∙ sym s_size))
    ∙ ap (λ l. plus l s) (ones ∙ ap (λ n. replicate n true) (sym s_size))
    ∙ plus-ones s

-- ---- the laws

-- a check has 16 bits
pub length-check : (text : List Bool) → length (check text) ≡ 16
length-check text = length-map (remainder (dividend text)) not ∙ length-remainder (dividend text)

-- the check of a text is good after it
pub is_good-check : (text : List Bool) → is_good (text ++ check text) ≡ true
is_good-check text = grind (arith, remainder-dividend-append, with_complement, length-remainder)

-- no other 16 bits are
pub only_check_lem : OnlyCheck
only_check_lem text fcs size = (
  λ good.
      only_complement (remainder (dividend text)) fcs (length-remainder (dividend text)) size
      (sym (remainder-dividend-append text fcs) ∙ same_from_test (remainder (dividend (text ++ fcs))) residue good),
  λ same. ap (λ x. is_good (text ++ x)) same ∙ is_good-check text,
)
