-- A card of octets: a card of frames, and a port for each of its lines.
use Rattle.std.specs.Prelude.{ℕ, List, get_or, set, replicate, Option, option_map}
use Rattle.std.specs.Option.{option_map_or}
use Rattle.model_line.specs.declared.config.Config.{Config}
use Rattle.model_line.specs.Event as line
use Rattle.model_card.specs.Card as cards
use Rattle.model_card.specs.Event as frames
use Rattle.model_card.specs.Machine as machine
use Rattle.model_card.specs.ports.Event.{Event}
use Rattle.model_card.specs.ports.Port as port
use Rattle.model_card.specs.ports.Port.{Port, Answer, fresh_port}

pub record OctetCard : Type 0 where
  pub card : cards.Card
  pub ports : List Port

-- A card of frames with ports as they begin.
abbrev pub with_fresh_ports : cards.Card → OctetCard
with_fresh_ports card = record { card = card; ports = replicate card.config.lines fresh_port }

-- As it begins.
abbrev pub fresh : Config → OctetCard
fresh c = record { card = cards.fresh c; ports = replicate c.lines fresh_port }

-- A port, by the number of its line, counted from 0.
abbrev pub port_at : ℕ → OctetCard → Port
port_at number m = get_or m.ports number fresh_port

-- What an event means to the card of frames, and what that says.
unfoldable pub meant : Event → OctetCard → Option frames.Event
meant e m = option_map (frames.at e.line) (port.meant m.card.config.n201 e.what (port_at e.line m))

abbrev pub answer_to : cards.Card → frames.Event → line.Answer
answer_to card f = machine.answer f card

abbrev pub said : Event → OctetCard → Option line.Answer
said e m = option_map (answer_to m.card) (meant e m)

abbrev pub card_after : cards.Card → frames.Event → cards.Card
card_after card f = machine.after f card

-- The card after an event, and its answer.
unfoldable pub after : Event → OctetCard → OctetCard
after e m = record {
  card = option_map_or (card_after m.card) (meant e m) m.card;
  ports = set m.ports e.line (port.after e.what (said e m) (port_at e.line m));
}

unfoldable pub answer : Event → OctetCard → Answer
answer e m = port.answer e.what (said e m) (port_at e.line m)
