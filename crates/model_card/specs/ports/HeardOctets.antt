-- What a card of octets hears are octets (Q.921 clauses 2.6 to 2.9).
use Rattle.std.specs.Prelude.{List, All}
use Rattle.model_bits.specs.StreamLaws.{HasOctets}
use Rattle.model_line.specs.Event as line
use Rattle.model_card.specs.ports.Card.{OctetCard}
use Rattle.model_card.specs.ports.Event.{Event}
use Rattle.model_card.specs.ports.Run.{meant_all}

-- The frame that an event of a line of frames hears, if it hears one, consists of octets, each 0 to 255.
abbrev pub HearsOctets : line.Event → Type 0
HearsOctets (line.hears e) = HasOctets e
HearsOctets other = Unit {0}

-- All that events mean to the card of frames inside: whatever the card of octets has received, and whatever comes.
abbrev pub HeardFramesAreOctets : Type 0
HeardFramesAreOctets = (m : OctetCard) (events : List Event) → All (λ e. HearsOctets e.what) (meant_all m events)
