-- The frame check sequence (Q.921 clause 2.7), by long division of polynomials over two values.
-- A polynomial is the list of its coefficients, the highest power first, which is the order of a line.
use Rattle.std.specs.Prelude.{Bool, true, false, not, List, [], ◌∷◌, ◌++◌, length, replicate, map, fold}
use Rattle.std.specs.Bool.{beq}
use Rattle.model_bits.specs.Bits.{same_bits}

-- The sum of two polynomials with as many coefficients, modulo 2.
abbrev pub plus : List Bool → List Bool → List Bool
plus (a ∷ p) (b ∷ q) = not (beq a b) ∷ plus p q
plus _ _ = []

-- The generator x^16 + x^12 + x^5 + 1, without its highest power.
abbrev pub generator : List Bool
generator =
    false ∷ false ∷ false ∷ true ∷ false ∷ false ∷ false ∷ false
    ∷ false ∷ false ∷ true ∷ false ∷ false ∷ false ∷ false ∷ true ∷ []

-- A step of the long division: the next coefficient is brought down to the remainder so far, and where
-- that makes a power x^16, the generator is taken off.
abbrev pub brought_down : List Bool → Bool → List Bool
brought_down (true ∷ r) b = plus (r ++ b ∷ []) generator
brought_down (false ∷ r) b = r ++ b ∷ []
brought_down [] b = b ∷ []

-- What the long division by the generator leaves: 16 coefficients.
abbrev pub remainder : List Bool → List Bool
remainder p = fold brought_down (replicate 16 false) p

-- What is divided, for `d` of `n` bits: x^16 * d + x^n * (x^15 + x^14 + .. + 1).
abbrev pub dividend : List Bool → List Bool
dividend d = plus (d ++ replicate 16 false) (replicate 16 true ++ replicate (length d) false)

-- The frame check sequence of bits, in the order of a line: the ones complement of the remainder.
abbrev pub check : List Bool → List Bool
check d = map not (remainder (dividend d))

-- What a receiver finds over a frame and its check where there is no error: 0001110100001111.
abbrev pub residue : List Bool
residue =
    false ∷ false ∷ false ∷ true ∷ true ∷ true ∷ false ∷ true
    ∷ false ∷ false ∷ false ∷ false ∷ true ∷ true ∷ true ∷ true ∷ []

-- Whether a receiver's division over a frame with its check tells of no error.
abbrev pub is_good : List Bool → Bool
is_good d = same_bits (remainder (dividend d)) residue
