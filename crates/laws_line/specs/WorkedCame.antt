-- Worked values of what a frame is heard as that a controller brings: each computes.
use Rattle.std.specs.Prelude.{◌≡◌, [], ◌∷◌, refl}
use Rattle.laws_line.specs.WorkedWords.{frame, overlong, bits_dropped as dropped, came}
use Rattle.model_bits.specs.declared.heard.Cause.TheVariants as cause

-- no octets at all, and an RR that has lost its second control octet, are too short
nothing_came : came 260 [] ≡ dropped cause.Short
nothing_came = refl

half_rr_came : came 260 (0x00 ∷ 0x81 ∷ 0x01 ∷ []) ≡ dropped cause.Short
half_rr_came = refl

-- SABME is whole with three
sabme_came : came 260 (0x00 ∷ 0x81 ∷ 0x7F ∷ []) ≡ frame (0x00 ∷ 0x81 ∷ 0x7F ∷ [])
sabme_came = refl

-- a UI with nine octets of information where eight are allowed
long_came :
    came 8 (0x00 ∷ 0x81 ∷ 0x03 ∷ 1 ∷ 2 ∷ 3 ∷ 4 ∷ 5 ∷ 6 ∷ 7 ∷ 8 ∷ 9 ∷ 10 ∷ []) ≡ overlong (0x00 ∷ 0x81 ∷ 0x03 ∷ 1 ∷ [])
long_came = refl
