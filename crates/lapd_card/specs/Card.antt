-- What a card of octets holds: a card, and a port for each of its lines.
use Rattle.std.specs.Prelude.{ℕ, List, refl}
use Rattle.std.specs.Coded.{Coded, code_by, coded×, coded_list}
use Rattle.lapd_line.specs.declared.port.Port.{Port}
use Rattle.lapd_line.specs.contracts.port.Port as port
use Rattle.lapd_card.specs.FrameCard as frame

pub record Held (S : Type 0) : Type 0 where
  pub frames : frame.Held S
  pub ports : List Port

-- the same as the tuple of its fields
abbrev pub held_code : {S : Type 0} → Coded S → Coded (Held S)
held_code {S} shelf =
    code_by (frame.Held S × List Port)
    (coded× (frame.held_code shelf) (coded_list port.the_row.coded))
    (λ h. (h.frames, h.ports))
    (λ p. record { frames = p.0; ports = p.1 })
    (λ _. refl)

abbrev pub line_count : {S : Type 0} → Held S → ℕ
line_count card = card.frames.config.lines
