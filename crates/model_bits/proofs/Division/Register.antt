-- The division with the bits fed in at the top: what a shift register does.
use Rattle.model_bits.proofs.Vocabulary.{◌≡◌, ◌+◌, Bool, true, false, not, List, [], ◌∷◌, ◌++◌, length, replicate, refl, sym, ap, ◌∙◌, append_assoc, append-nil, length-append, arith, beq, fold, length-replicate, fold-append, plus, generator, brought_down, remainder, dividend}
use Rattle.model_bits.proofs.Division.Sums.{differ-comm, plus-comm, plus-assoc, plus-append, plus_zeros_of, length-plus}
use Rattle.model_bits.proofs.Division.Linear.{length-brought_down, remainder_few, remainder-one}

-- What a register holds after one bit more, its highest power first: the power that leaves it meets the bit.
abbrev pub with_bit : List Bool → Bool → List Bool
with_bit (a ∷ r) b = brought_down (not (beq a b) ∷ r) false
with_bit [] b = []

-- it still holds 16 coefficients
pub length-with_bit : (s : List Bool) (b : Bool) → length s ≡ 16 → length (with_bit s b) ≡ 16
length-with_bit [] b size = size
length-with_bit (a ∷ r) b size = length-brought_down (not (beq a b) ∷ r) false size

-- What is divided where a register holds `s` before the bits `d`.
abbrev pub text_below : List Bool → List Bool → List Bool
text_below s d = plus (d ++ replicate 16 false) (s ++ replicate (length d) false)

-- A power above a text, where `r` are the register's other bits: it goes off with the generator.
remainder-below_power :
    (x : Bool) (r d : List Bool) → length r ≡ 15
    → remainder (x ∷ plus (d ++ replicate 16 false) (r ++ false ∷ replicate (length d) false))
    ≡ remainder (text_below (brought_down (x ∷ r) false) d)
remainder-below_power false r d size =
    ap (λ l. remainder (plus (d ++ replicate 16 false) l)) (sym (append_assoc r (false ∷ []) (replicate (length d) false)))
remainder-below_power true r d size =
    let text : List Bool = d ++ replicate 16 false in
    let zeros : List Bool = replicate (length d) false in
    let shifted_size : length (r ++ false ∷ []) ≡ 16 = omega (arith, length-append r (false ∷ [])) in
    let text_size : length text ≡ 16 + length d = omega (arith, length-append d (replicate 16 false)) in
    let same_size : length text ≡ length (r ++ false ∷ zeros) =
    omega (arith, text_size, length-append r (false ∷ zeros), length-replicate (length d) false) in
    let with_generator : plus ((r ++ false ∷ []) ++ zeros) (generator ++ zeros) ≡ plus (r ++ false ∷ []) generator ++ zeros =
    plus-append (r ++ false ∷ []) generator zeros zeros shifted_size
    ∙ ap (λ l. plus (r ++ false ∷ []) generator ++ l) (plus_zeros_of zeros (length d) (length-replicate (length d) false)) in
    remainder-one (length d) (plus text (r ++ false ∷ zeros)) (length-plus text (r ++ false ∷ zeros) same_size ∙ text_size)
    ∙ ap remainder
    (plus-assoc text (r ++ false ∷ zeros) (generator ++ zeros)
    ∙ ap (λ l. plus text (plus l (generator ++ zeros))) (sym (append_assoc r (false ∷ []) zeros))
    ∙ ap (λ l. plus text l) with_generator)

-- the first bit of a text goes into the register
remainder-with_bit :
    (d s : List Bool) (b : Bool) → length s ≡ 16
    → remainder (text_below s (b ∷ d)) ≡ remainder (text_below (with_bit s b) d)
remainder-with_bit d s b size = grind (arith, differ-comm, remainder-below_power)

-- and so do all of them, in turn
pub remainder-text_below : (d s : List Bool) → length s ≡ 16 → remainder (text_below s d) ≡ fold with_bit s d
remainder-text_below [] s size =
    ap remainder (ap (λ l. plus (replicate 16 false) l) (append-nil s) ∙ plus-comm (replicate 16 false) s ∙ plus_zeros_of s 16 size)
    ∙ remainder_few s size
remainder-text_below (b ∷ d) s size =
    remainder-with_bit d s b size ∙ remainder-text_below d (with_bit s b) (length-with_bit s b size)

-- the division of a frame check is that of a register that begins with ones
pub remainder-dividend : (d : List Bool) → remainder (dividend d) ≡ fold with_bit (replicate 16 true) d
remainder-dividend d = remainder-text_below d (replicate 16 true) refl

-- the division of a text that goes on begins with what the register holds
pub remainder-dividend-append :
    (d e : List Bool) → remainder (dividend (d ++ e)) ≡ fold with_bit (remainder (dividend d)) e
remainder-dividend-append d e = grind (arith, remainder-dividend, fold-append)
