-- What bits make of themselves on a line, all at once (Q.921 clause 2.6). No public call names this.
--
-- A framer stuffs without tables: `stuffer.rt` finds the places in up to 40 bits, and the latest four before them,
-- where five 1s begin, and puts a 0 after the lowest five, then after the next five behind that 0, until there are
-- none. That this is `stuffed` is proved bit by bit (`proofs/Fives.antt`) and 0 by 0 (`proofs/Underway.antt`).
use Rattle.std.specs.Prelude.{◌≡◌, ℕ, suc, bit_and, ◌/◌, Bool, true, List, ◌∷◌, ◌++◌, drop, replicate, reverse}
use Rattle.model_bits.specs.Bits.{low_bits}
use Rattle.model_bits.specs.Stuffing.{stuffed}

-- the contiguous 1s that begin a list of bits
abbrev pub first_ones : List Bool → ℕ
first_ones (true ∷ b) = suc (first_ones b)
first_ones _ = 0

-- the contiguous 1s at the end of four bits, the first of them lowest
abbrev pub last_ones : ℕ → ℕ
last_ones latest = first_ones (reverse (low_bits 4 latest))

-- what a sender makes of bits, where the latest `ones` bits given are 1s
abbrev pub text_after : ℕ → List Bool → List Bool
text_after ones b = drop ones (stuffed (replicate ones true ++ b))

-- A text with so many 1s at its end goes on with what bits make of themselves, whatever comes after them.
abbrev pub Goes : List Bool → ℕ → List Bool → List Bool → ℕ → Type 0
Goes before ones b after run = (rest : List Bool) → after ++ text_after run rest ≡ before ++ text_after ones (b ++ rest)

-- the places of a number where five 1s begin: it has a 1 there, and one at each of the next four places
abbrev pub fives : ℕ → ℕ
fives x = bit_and (bit_and (bit_and x (x / 2)) (bit_and (x / 4) (x / 8))) (x / 16)
