-- What the messages of both sides have in common (Q.921 clause 5.3.6): the octets of the information field, and the frame.
use Rattle.std.specs.Prelude.{ℕ, ◌+◌, ◌*◌, ◌/◌, ◌%◌, ◌==◌, ◌&&◌, true, false, List, [], ◌∷◌, take, Option, None, if◌then◌else◌}
use Rattle.lapd_frame.specs.Grammar.{spelling}
use Rattle.lapd_frame.specs.declared.addresses.Side.{Side}
use Rattle.lapd_frame.specs.declared.controls.Control.TheVariants.{Ui}
use Rattle.lapd_frame.specs.declared.readings.Reading.{Reading}
use Rattle.lapd_frame.specs.Readings.{by_reading}

-- Figure of clause 5.3.6: the entity identifier 0F, the reference number Ri with its high octet first, the message
-- type, and the action indicator Ai with 1 as its extension bit.
abbrev pub information : ℕ → ℕ → ℕ → List ℕ
information ri type action = 0x0F ∷ (ri / 256) ∷ (ri % 256) ∷ type ∷ (2 * action + 1) ∷ []

-- Each message goes to the group in a UI command of SAPI 63 with P 0 (clause 5.3.6), spelled as that of the side which sends
-- it (clause 3.3.2).
abbrev pub in_frame : Side → List ℕ → List ℕ
in_frame side octets = spelling side (record { address = record { sapi = 63; command = true; tei = 127 }; control = Ui false; info = octets })

-- What is looked at of the information of a UI frame: all of it (profile). By annex B, of more than five octets the first five, as
-- a message of one Ai has no more (clause 5.3.6).
abbrev pub looked_at : Reading → List ℕ → List ℕ
looked_at reading octets = by_reading reading octets (take 5 octets)

-- Which message with one Ai these octets are, by its type, Ri and Ai: exactly five. `None` if they are none.
abbrev pub heard_by : {A : Type 0} → (ℕ → ℕ → ℕ → Option A) → List ℕ → Option A
heard_by of_type [] = None
heard_by of_type (entity ∷ []) = None
heard_by of_type (entity ∷ high ∷ []) = None
heard_by of_type (entity ∷ high ∷ low ∷ []) = None
heard_by of_type (entity ∷ high ∷ low ∷ type ∷ []) = None
heard_by of_type (entity ∷ high ∷ low ∷ type ∷ last ∷ []) =
    if entity == 0x0F && last % 2 == 1 then of_type type (256 * high + low) (last / 2) else None
heard_by of_type (entity ∷ high ∷ low ∷ type ∷ last ∷ sixth ∷ more) = None
