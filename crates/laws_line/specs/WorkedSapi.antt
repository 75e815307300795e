-- Worked values: a line on which the second service has SAPI 62.
use Rattle.std.specs.Prelude.{◌≡◌, ℕ, List, [], ◌∷◌, Option, Some, None, option_map, refl}
use Rattle.laws_line.specs.WorkedWords.{Sapi, Packet, exchanged, read_by, reading, header_of, control_of, unnumbered_of, Config, first_fault, sapi_fault, Line, fresh_line, of_aim, of_request, aim_of_heard, Taken, taken, Assign, Unit, Request}
use Rattle.model_bits.specs.Stream as stream
use Rattle.model_teis.specs.network.Events as teis
use Rattle.model_line.specs.Heard.{drop_for}
use Rattle.model_line.specs.declared.config.Field.TheVariants as field
use Rattle.laws_line.specs.Worked.{usual}

abbrev abis : Config
abis = record usual { sapi = 62 }

abbrev asked : Request → Line → Line
asked r l = (of_request abis r l).line

abbrev heard : List ℕ → Line → Line
heard octets l = (of_aim abis (aim_of_heard abis l (stream.frame octets)) l).line

abbrev with_64 : Line
with_64 = asked (Assign 64) (fresh_line abis)

abbrev frame_in : Taken → List ℕ
frame_in t = t.frame

abbrev next_frame : Line → Option (List ℕ)
next_frame l = option_map frame_in (taken abis l)

-- SABME with SAPI 62 is for the packet link, whose UA has that SAPI; and so has unit data.
ua_of_62 : next_frame (heard (0xF8 ∷ 0x81 ∷ 0x7F ∷ []) with_64) ≡ Some (0xF8 ∷ 0x81 ∷ 0x73 ∷ [])
unfolding exchanged read_by reading header_of control_of unnumbered_of teis.course teis.refusal
ua_of_62 = refl

unit_of_62 : next_frame (asked (Unit Packet 127 (0xAB ∷ [])) with_64) ≡ Some (0xFA ∷ 0xFF ∷ 0x03 ∷ 0xAB ∷ [])
unfolding exchanged teis.course teis.refusal
unit_of_62 = refl

-- SAPI 0 stays that of call control; SAPI 16 is that of no service.
ua_of_0 : next_frame (heard (0x00 ∷ 0x81 ∷ 0x7F ∷ []) with_64) ≡ Some (0x00 ∷ 0x81 ∷ 0x73 ∷ [])
unfolding exchanged read_by reading header_of control_of unnumbered_of teis.course teis.refusal
ua_of_0 = refl

none_of_16 : aim_of_heard abis with_64 (stream.frame (0x40 ∷ 0x81 ∷ 0x7F ∷ [])) ≡ drop_for Sapi
unfolding exchanged read_by reading header_of control_of unnumbered_of teis.course teis.refusal
none_of_16 = refl

-- SAPI 1 to 62 are in range.
in_range : first_fault abis ≡ None
unfolding sapi_fault
in_range = refl

out_of_range : first_fault (record usual { sapi = 63 }) ≡ Some field.Sapi
unfolding sapi_fault
out_of_range = refl
