-- The terminal of a line: what it has put on the line, and what it puts there to send a frame.
use Rattle.std.specs.Prelude.{◌≡◌, ℕ, ◌+◌, ◌*◌, ◌%◌, ◌==◌, if◌then◌else◌, List, [], ◌∷◌, ◌++◌, length, drop}
use Rattle.model_bits.specs.Bits.{octets_of}
use Rattle.model_bits.specs.Framer as framing
use Rattle.model_bits.specs.Sent.{Item, idle, frame, line_text}
use Rattle.lapd_transcript.specs.declared.terminal.Terminal as rust

-- All that it has put on the line, and how many octets of that it has given.
pub record Terminal : Type 0 where
  pub items : List Item
  pub given : ℕ

-- A terminal sends a frame after what it has sent before, up to and with the last bit of its closing flag. Where that
-- bit is not the last of an octet, an idle flag begins; its bits that are left go before the next frame.
abbrev pub with_frame : List ℕ → List Item → List Item
with_frame octets items = items ++ frame octets ∷ []

abbrev pub whole_octets : List Item → List Item
whole_octets items = if length (line_text items) % 8 == 0 then items else items ++ idle ∷ []

abbrev pub sending : List ℕ → Terminal → List Item
sending octets t = whole_octets (with_frame octets t.items)

abbrev pub octets_sent : List ℕ → Terminal → List ℕ
octets_sent octets t = octets_of (drop (8 * t.given) (line_text (sending octets t)))

abbrev pub after_sending : List ℕ → Terminal → Terminal
after_sending octets t = record { items = sending octets t; given = t.given + length (octets_sent octets t) }

-- A sender has put these items on its line, and given so many octets of them.
pub record Sends (t : rust.Terminal) (m : Terminal) : Type 0 where
  pub octets : List ℕ
  pub stands : framing.FramerStands t.framer m.items octets
  pub given : length octets ≡ m.given
