-- What is seen of a timed card of either kind: of a card of frames, and of a card of octets.
use Rattle.std.specs.Prelude.{ℕ, Bool, List, [], Option, Some}
use Rattle.lapd_clock.specs.Timer.{Lengths}
use Rattle.lapd_frame.specs.declared.notes.Note.{Note}
use Rattle.lapd_frame.specs.declared.services.Service.{Service}
use Rattle.model_line.specs.Event as line
use Rattle.model_line.specs.declared.config.Config.{Config}
use Rattle.model_line.specs.Line.{link_of}
use Rattle.model_card.specs.Card as cards
use Rattle.model_card.specs.Card.{Card, line_at}
use Rattle.model_card.specs.Event.{Event as FrameEvent}
use Rattle.model_card.specs.Machine as machine
use Rattle.model_card.specs.ports.Card as ports
use Rattle.model_card.specs.ports.Card.{OctetCard, port_at}
use Rattle.model_card.specs.ports.Event.{Event as OctetEvent}
use Rattle.model_card.specs.ports.Port as port
use Rattle.model_timed.specs.Clock.{stopped}
use Rattle.model_timed.specs.Frames.{frames}
use Rattle.model_timed.specs.Octets.{octets}
use Rattle.model_timed.specs.Timed.{Kind, Timed}
use Rattle.laws_line.specs.Heard as answers

-- How the card begins; the state of a link, by its number in Q.921; whether a release is owed of it (annex B, state 5); what an event
-- means at its line; and the notes of the answer.
pub record Watched (Card Event : Type 0) : Type 1 where
  pub kind : Kind Card Event
  pub fresh : Config → Card
  pub state : ℕ → Service → ℕ → Card → Option ℕ
  pub owed : ℕ → Service → ℕ → Card → Bool
  pub meant : Event → Card → Option line.Event
  pub notes : Event → Card → List Note

abbrev pub fresh : {Card Event : Type 0} → Watched Card Event → Config → Lengths → Timed Card
fresh w c lengths = record { card = w.fresh c; clock = stopped lengths }

-- At a card of frames an event of a line means itself.
abbrev pub meant_by_frames : FrameEvent → Card → Option line.Event
meant_by_frames e card = Some e.what

abbrev pub notes_by_frames : FrameEvent → Card → List Note
notes_by_frames e card = answers.notes_of (machine.answer e card)

abbrev pub owed_by : ℕ → Service → ℕ → Card → Bool
owed_by number service tei card = (link_of service tei (line_at number card)).owed

abbrev pub of_frames : Watched Card FrameEvent
of_frames = record { kind = frames; fresh = cards.fresh; state = cards.state; owed = owed_by; meant = meant_by_frames; notes = notes_by_frames }

-- At a card of octets an octet means what stands in all octets that the line received, with this one, and did not stand in those
-- before it; and a pull calls for the next frame, if the bits of the last one have gone (`meant` of a port).
abbrev pub state_inside : ℕ → Service → ℕ → OctetCard → Option ℕ
state_inside number service tei m = cards.state number service tei m.card

abbrev pub owed_inside : ℕ → Service → ℕ → OctetCard → Bool
owed_inside number service tei m = owed_by number service tei m.card

abbrev pub meant_by_octets : OctetEvent → OctetCard → Option line.Event
meant_by_octets e m = port.meant m.card.config.n201 e.what (port_at e.line m)

abbrev pub notes_in : port.Answer → List Note
notes_in (port.told t) = t.notes
notes_in (port.refused why) = []
notes_in (port.pulled value begun orders) = []

abbrev pub notes_by_octets : OctetEvent → OctetCard → List Note
notes_by_octets e m = notes_in (ports.answer e m)

abbrev pub of_octets : Watched OctetCard OctetEvent
of_octets = record { kind = octets; fresh = ports.fresh; state = state_inside; owed = owed_inside; meant = meant_by_octets; notes = notes_by_octets }
