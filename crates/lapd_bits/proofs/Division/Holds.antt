-- What a register holds, as bits are fed to it.
use Rattle.lapd_bits.proofs.Vocabulary.{◌≡◌, ℕ, ◌+◌, ◌-◌, ◌/◌, ◌^◌, ◌<◌, Bool, not, nat_eq, List, [], ◌∷◌, ◌++◌, length, take, get_or, map, refl, sym, ap, subst, ◌∙◌, append_assoc, arith, take_more, and_mask, low_bits, bits, check, residue, is_good, HoldsDivision, low_bits-add, bits-push, same_bits-low_bits}
use Rattle.std.specs.Prelude.{bit_and}
use Rattle.lapd_bits.proofs.Division.Word.{low_bits-not, low_bits-one}

-- the preset stands for no bits
pub HoldsDivision_preset : HoldsDivision 0xFFFF []
unfolding low_bits
HoldsDivision_preset = refl

-- ---- the bits of an octet

-- the low bits of an octet, and the next one as the code reads it
pub low_bits-next :
    (place x : ℕ) → low_bits (place + 1) x ≡ low_bits place x ++ nat_eq (bit_and (x / 2 ^ place) 1) 1 ∷ []
low_bits-next place x =
    low_bits-add place 1 x
    ∙ ap (λ l. low_bits place x ++ l)
    (low_bits-one (x / 2 ^ place)
    ∙ ap (λ y. nat_eq y 1 ∷ []) (sym (and_mask (x / 2 ^ place) 1)))

-- more bits of a text that stands behind others
pub HoldsDivision-behind : (register : ℕ) (d a b c : List Bool) → a ++ b ≡ c → HoldsDivision register ((d ++ a) ++ b) → HoldsDivision register (d ++ c)
HoldsDivision-behind register d a b c is holds = subst (HoldsDivision register) (append_assoc d a b ∙ ap (λ l. d ++ l) is) holds

-- one octet more
pub bits-take_more : (i : ℕ) (octets : List ℕ) → i < length octets → bits (take i octets) ++ low_bits 8 (get_or octets i 0) ≡ bits (take (i + 1) octets)
bits-take_more i octets within =
    sym (bits-push (take i octets) (get_or octets i 0)) ∙ ap bits (sym (take_more octets i 0 within))

-- ---- the answers

-- the complement of the register is the check
pub HoldsDivision_check :
    (register : ℕ) (d : List Bool) → register < 2 ^ 16 → HoldsDivision register d
    → low_bits 16 (0xFFFF - register) ≡ check d
HoldsDivision_check register d small holds = low_bits-not 16 register small ∙ ap (map not) holds

-- the constant of the code is the residue
low_bits-residue : low_bits 16 0xF0B8 ≡ residue
unfolding low_bits
low_bits-residue = refl

-- a register of this value tells of no error, and no other does
pub HoldsDivision_good :
    (register : ℕ) (d : List Bool) → register < 2 ^ 16 → HoldsDivision register d
    → nat_eq register 0xF0B8 ≡ is_good d
HoldsDivision_good register d small holds = grind (arith, same_bits-low_bits, low_bits-residue)
