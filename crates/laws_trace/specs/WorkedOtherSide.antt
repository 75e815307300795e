-- Worked values: which side's frames are heard, and one that would be its own.
use Rattle.std.specs.Prelude.{◌≡◌, ◌==◌, true, [], ◌∷◌, Ok, refl}
use Rattle.lapd_frame.specs.Reading.{reading as side_reading, header_of, control_of, unnumbered_of}
use Rattle.lapd_frame.specs.Senders.{exchanged, reading}
use Rattle.model_line.specs.Heard.{heard_side}
use Rattle.laws_line.specs.card.Worked.{usual}
use Rattle.laws_line.specs.WorkedSabme.{sabme}
use Rattle.laws_trace.specs.OtherSide.{bit_in}

-- SABME of a terminal is heard as a command by a card of the network's side.
sabme_heard : reading (heard_side usual) (0x00 ∷ 0x81 ∷ 0x7F ∷ []) ≡ Ok sabme
unfolding exchanged reading side_reading header_of control_of unnumbered_of
sabme_heard = refl

-- One that had the network's C/R bit would be heard as one if its own side was heard, and breaks the law.
heard_of_itself : true ≡ (bit_in (0x02 ∷ 0x81 ∷ 0x7F ∷ []) == 0) → ⊥
heard_of_itself e = cc e
