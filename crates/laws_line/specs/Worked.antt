-- Worked values: what requests and their ends are to the links of a line.
use Rattle.std.specs.Prelude.{◌≡◌, ℕ, List, [], ◌∷◌, refl}
use Rattle.laws_line.specs.WorkedWords.{Packet, request, told, nothing, of_aim, Line, fresh_line, of_request, aim_of_heard, Assign, Unit, units_asked}
use Rattle.model_bits.specs.Stream as stream
pub use Rattle.model_line.specs.Usual.{usual}

-- TEI 64 on the line, and its SABME of both services
abbrev pub heard : List ℕ → Line → Line
heard octets l = (of_aim usual (aim_of_heard usual l (stream.frame octets)) l).line

abbrev pub both_up : Line
both_up = heard (0x40 ∷ 0x81 ∷ 0x7F ∷ []) (heard (0x00 ∷ 0x81 ∷ 0x7F ∷ []) (of_request usual (Assign 64) (fresh_line usual)).line)

unit_granted : units_asked (request (Unit Packet 127 (0xAB ∷ []))) (told nothing)
    ≡ record { service = Packet; tei = 127; contents = 0xAB ∷ [] } ∷ []
unit_granted = refl
