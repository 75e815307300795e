-- What holds of every card of octets between two events.
use Rattle.std.specs.Prelude.{◌≡◌, ℕ, ◌+◌, ◌≤◌, length, All}
use Rattle.model_bits.specs.Framer.{item_octets}
use Rattle.model_card.specs.Sound as cards
use Rattle.model_card.specs.ports.Card.{OctetCard}
use Rattle.model_card.specs.ports.Codec.{IsTextOf}
use Rattle.model_card.specs.ports.Port.{Port}

-- Of a port: the octets given are a beginning of its text, and no item is longer than the longest frame.
pub record IsSoundPort (n201 : ℕ) (p : Port) : Type 0 where
  pub text : IsTextOf p
  pub sizes : All (λ item. item_octets item ≤ n201 + 4) p.items

pub record IsSoundOctetCard (m : OctetCard) : Type 0 where
  pub card : cards.IsSound m.card
  pub count : length m.ports ≡ m.card.config.lines
  pub ports : All (IsSoundPort m.card.config.n201) m.ports
