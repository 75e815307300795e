-- What holds of every card between two events.
use Rattle.std.specs.Prelude.{◌≡◌, ◌≤◌, length, All}
use Rattle.model_line.specs.Sound as line
use Rattle.model_card.specs.Card.{Card, used}

pub record IsSound (card : Card) : Type 0 where
  pub config : line.IsInRange card.config
  pub count : length card.lines ≡ card.config.lines
  pub lines : All (line.IsSound card.config) card.lines
  pub slots : used card ≤ card.config.slots
