-- What calls for the next frame of one line among the events of a card come to.
use Rattle.std.specs.Prelude.{◌≡◌, ℕ, List, [], ◌∷◌, ◌++◌, None}
use Rattle.model_line.specs.Taken.{taken}
use Rattle.laws_line.specs.Served.{HasNothing}
use Rattle.model_card.specs.Card.{Card, line_at}
use Rattle.model_card.specs.Event.{Event}
use Rattle.model_card.specs.Run.{after_all}

-- After these events nothing waits at the line that may go, and the next call takes no frame; and the line is as it was.
pub record IsIdleAmong (card : Card) (number : ℕ) (events : List Event) : Type 0 where
  pub nothing : HasNothing card.config (line_at number (after_all card events))
  pub none : taken card.config (line_at number (after_all card events)) ≡ None
  pub same : line_at number (after_all card events) ≡ line_at number card

-- Some things are among others: in their order, each at a place of its own.
abbrev pub AreAmong : {X : Type 0} → List X → List X → Type 0
AreAmong [] all = Unit {0}
AreAmong {X} (x ∷ xs) all = (front back : List X) × (all ≡ front ++ x ∷ back) × AreAmong xs back
