-- Which cards of octets come about.
use Rattle.std.specs.Prelude.{◌≡◌, List}
use Rattle.model_line.specs.Sound.{IsInRange}
use Rattle.model_card.specs.Card as cards
use Rattle.model_card.specs.Reached.{MayBegin}
use Rattle.model_card.specs.ports.Card.{OctetCard, with_fresh_ports}
use Rattle.model_card.specs.ports.Event.{Event}
use Rattle.model_card.specs.ports.Run.{after_all, AreAtLines}

-- A card is reached where its configuration is in range, and it is what some list of events, each at a line of the card,
-- makes of a card of frames with which one may begin, its ports as they begin.
pub record CameAbout (m : OctetCard) : Type 0 where
  pub first : cards.Card
  pub begins : MayBegin first
  pub events : List Event
  pub at_lines : AreAtLines m events
  pub same : m ≡ after_all (with_fresh_ports first) events

-- A name of its own, as that of a card of frames.
unfoldable pub IsMade : OctetCard → Type 0
IsMade m = CameAbout m

pub record IsReached (m : OctetCard) : Type 0 where
  pub config : IsInRange m.card.config
  pub made : IsMade m
