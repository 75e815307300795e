-- What holds in a moment of a run, of the parts of its line.
use Rattle.std.specs.Prelude.{◌≡◌, ◌≢◌, ℕ}
use Rattle.laws_line.specs.OneEvent.{IsOneEvent}
use Rattle.model_card.specs.Card.{line_at}
use Rattle.model_card.specs.Machine.{after}
use Rattle.model_card.specs.Run.{Moment}

-- One part of one line has one event, and all else is as it was.
pub record IsOneEventIn (m : Moment) : Type 0 where
  pub own : IsOneEvent m.card.config m.event.what (line_at m.event.line m.card) (line_at m.event.line (after m.event m.card)) m.answer
  pub others : (other : ℕ) → other ≢ m.event.line → line_at other (after m.event m.card) ≡ line_at other m.card
