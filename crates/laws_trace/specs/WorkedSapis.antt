-- Worked values: which service a SAPI names, and one that is not named so.
use Rattle.std.specs.Prelude.{◌≡◌, true, [], ◌∷◌, Ok, refl}
use Rattle.lapd_frame.specs.declared.controls.Control.TheVariants.{Sabme}
use Rattle.lapd_frame.specs.Reading.{reading as side_reading, header_of, control_of, unnumbered_of}
use Rattle.lapd_frame.specs.Senders.{exchanged, reading}
use Rattle.model_line.specs.declared.config.Config.{Config}
use Rattle.model_line.specs.Heard.{heard_side}
use Rattle.laws_line.specs.card.Worked.{usual}
use Rattle.laws_trace.specs.Sapis.{IsNamed}

abbrev abis : Config
abis = record usual { sapi = 62 }

-- SABME of a terminal with SAPI 62 is one of the second service there, and one with SAPI 16 is of none.
sabme_of_62 : reading (heard_side abis) (0xF8 ∷ 0x81 ∷ 0x7F ∷ []) ≡ Ok (record { address = record { sapi = 16; command = true; tei = 64 }; control = Sabme true; info = [] })
unfolding exchanged reading side_reading header_of control_of unnumbered_of
sabme_of_62 = refl

sabme_of_16 : reading (heard_side abis) (0x40 ∷ 0x81 ∷ 0x7F ∷ []) ≡ Ok (record { address = record { sapi = 62; command = true; tei = 64 }; control = Sabme true; info = [] })
unfolding exchanged reading side_reading header_of control_of unnumbered_of
sabme_of_16 = refl

-- One with SAPI 16 that was read as one of the second service would break the law.
served_there : IsNamed abis (0x40 ∷ 0x81 ∷ 0x7F ∷ []) (record { sapi = 16; command = true; tei = 64 }) → ⊥
served_there h = cc h.packet
