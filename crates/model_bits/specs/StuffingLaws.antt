-- Laws of transparency (Q.921 clause 2.6).
use Rattle.std.specs.Prelude.{◌≡◌, ℕ, ◌<◌, Bool, true, List, ◌++◌, replicate, Some, None, All, ◌↔◌}
use Rattle.model_bits.specs.Bits.{bits}
use Rattle.model_bits.specs.Stuffing.{stuffed, unstuffed, octets_sent}

-- A receiver gets back the bits that a sender stuffed.
abbrev pub StuffedBitsComeBack : Type 0
StuffedBitsComeBack = (b : List Bool) → unstuffed (stuffed b) ≡ b

-- No two lists of bits have the same stuffed text.
abbrev pub OneTextEach : Type 0
OneTextEach = (a b : List Bool) → stuffed a ≡ stuffed b → a ≡ b

-- Six contiguous 1s stand somewhere in a text.
abbrev pub HasSixOnes : List Bool → Type 0
HasSixOnes text = (front : List Bool) × (back : List Bool) × (text ≡ front ++ (replicate 6 true ++ back))

-- A text ends in five contiguous 1s.
abbrev pub EndsInFiveOnes : List Bool → Type 0
EndsInFiveOnes text = (front : List Bool) × (text ≡ front ++ replicate 5 true)

-- What a sender makes of some list of bits is a text with no six contiguous 1s, and with no five at its end.
abbrev pub StuffedTexts : Type 0
StuffedTexts =
    (text : List Bool) → ((b : List Bool) × (text ≡ stuffed b)) ↔ ((¬ HasSixOnes text) × (¬ EndsInFiveOnes text))

-- Each number is an octet.
abbrev pub AreOctets : List ℕ → Type 0
AreOctets octets = All (λ octet. octet < 256) octets

-- The octets found for a text are those of which a sender makes it.
abbrev pub OctetsAreThoseSent : Type 0
OctetsAreThoseSent =
    (text : List Bool) (octets : List ℕ) →
    (octets_sent text ≡ Some octets) ↔ ((text ≡ stuffed (bits octets)) × AreOctets octets)

-- None are found exactly where there are none.
abbrev pub NoneWhereNoneSent : Type 0
NoneWhereNoneSent =
    (text : List Bool) →
    (octets_sent text ≡ None) ↔ ((octets : List ℕ) → AreOctets octets → ¬ (text ≡ stuffed (bits octets)))
