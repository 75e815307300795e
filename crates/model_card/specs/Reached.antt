-- Which cards come about.
use Rattle.std.specs.Prelude.{◌≡◌, ◌<◌, ℕ, List}
use Rattle.model_link.specs.Timed.{IsTimed}
use Rattle.model_line.specs.Line.{link_at}
use Rattle.model_line.specs.Sound.{IsInRange}
use Rattle.model_card.specs.Card.{Card, line_at}
use Rattle.model_card.specs.Event.{Event}
use Rattle.model_card.specs.Run.{after_all, AreAtLines}
use Rattle.model_card.specs.Sound.{IsSound}

-- Each link of each line runs at most one timer, and that which its state has it run.
abbrev pub AreTimed : Card → Type 0
AreTimed card = (line : ℕ) → line < card.config.lines → (number : ℕ) → IsTimed (link_at number (line_at line card))

-- With what a card may begin: it is sound, and its timers are those of its states. So is a card that has just begun, and so
-- may one be that is restored from what was saved (profile).
pub record MayBegin (card : Card) : Type 0 where
  pub sound : IsSound card
  pub timed : AreTimed card

-- A card is reached where its configuration is in range, and it is what some list of events, each at a line of the card,
-- makes of one with which a card may begin.
pub record CameAbout (card : Card) : Type 0 where
  pub first : Card
  pub begins : MayBegin first
  pub events : List Event
  pub at_lines : AreAtLines card events
  pub same : card ≡ after_all first events

-- It has a name of its own, which a proof opens where it needs the events, so that a search does not look into every card.
unfoldable pub IsMade : Card → Type 0
IsMade card = CameAbout card

pub record IsReached (card : Card) : Type 0 where
  pub config : IsInRange card.config
  pub made : IsMade card
