-- Octets as bits, in the order of a line (Q.921 clause 2.8.2): the low-order bit of an octet goes first.
use Rattle.std.specs.Prelude.{ℕ, suc, zero, ◌+◌, ◌*◌, ◌/◌, ◌%◌, nat_eq, Bool, true, false, ◌&&◌, List, [], ◌∷◌, ◌++◌}
use Rattle.std.specs.Bool.{beq}

-- The `n` low bits of a number, the lowest first.
unfoldable pub low_bits : ℕ → ℕ → List Bool
low_bits zero x = []
low_bits (suc n) x = nat_eq (x % 2) 1 ∷ low_bits n (x / 2)

-- The bits of octets as they go over a line: one list, each octet with its low bit first.
abbrev pub bits : List ℕ → List Bool
bits [] = []
bits (octet ∷ octets) = low_bits 8 octet ++ bits octets

-- A flag (clause 2.2): 01111110.
abbrev pub flag : List Bool
flag = false ∷ true ∷ true ∷ true ∷ true ∷ true ∷ true ∷ false ∷ []

-- A bit as a number, and bits as a number, the lowest first.
abbrev pub bit_value : Bool → ℕ
bit_value false = 0
bit_value true = 1

abbrev pub number_of : List Bool → ℕ
number_of [] = 0
number_of (b ∷ bs) = bit_value b + 2 * number_of bs

-- The whole octets of bits. Fewer than eight bits at the end are no octet.
abbrev pub octets_of : List Bool → List ℕ
octets_of (a ∷ b ∷ c ∷ d ∷ e ∷ f ∷ g ∷ h ∷ bs) = number_of (a ∷ b ∷ c ∷ d ∷ e ∷ f ∷ g ∷ h ∷ []) ∷ octets_of bs
octets_of _ = []

-- Whether two lists of bits are the same.
abbrev pub same_bits : List Bool → List Bool → Bool
same_bits [] [] = true
same_bits (a ∷ as_) (b ∷ bs) = beq a b && same_bits as_ bs
same_bits _ _ = false
