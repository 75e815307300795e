-- Transparency (Q.921 clause 2.6): what keeps the bits between two flags from looking like a flag.
use Rattle.std.specs.Prelude.{ℕ, Bool, true, false, List, [], ◌∷◌, Option, Some, None, if◌then◌else◌}
use Rattle.model_bits.specs.Bits.{bits, octets_of, same_bits}

-- What a sender makes of bits: a 0 goes after every five contiguous 1s, also where they are the last bits.
abbrev pub stuffed : List Bool → List Bool
stuffed (true ∷ true ∷ true ∷ true ∷ true ∷ b) = true ∷ true ∷ true ∷ true ∷ true ∷ false ∷ stuffed b
stuffed (x ∷ b) = x ∷ stuffed b
stuffed [] = []

-- What a receiver makes of a text: each 0 that directly follows five contiguous 1s is taken out.
abbrev pub unstuffed : List Bool → List Bool
unstuffed (true ∷ true ∷ true ∷ true ∷ true ∷ false ∷ b) = true ∷ true ∷ true ∷ true ∷ true ∷ unstuffed b
unstuffed (x ∷ b) = x ∷ unstuffed b
unstuffed [] = []

-- The octets of which a sender makes this text, or none where it is not what a sender makes of octets.
abbrev pub octets_sent : List Bool → Option (List ℕ)
octets_sent text =
    let octets = octets_of (unstuffed text) in
    if same_bits (stuffed (bits octets)) text then Some octets else None
