-- Whole lists of events.
use Rattle.std.specs.Prelude.{ℕ, ◌<◌, List, [], ◌∷◌, ◌++◌, fold, All}
use Rattle.model_line.specs.Event.{Answer}
use Rattle.model_card.specs.Event.{Event}
use Rattle.model_card.specs.Card.{Card}
use Rattle.model_card.specs.Machine.{after, answer}

-- Where a list of events leads: the card after it, and the replies, in order, each with its line.
pub record Run : Type 0 where
  pub card : Card
  pub replies : List (ℕ × Answer)

abbrev pub one_more : Run → Event → Run
one_more r e = record { card = after e r.card; replies = r.replies ++ (e.line, answer e r.card) ∷ [] }

abbrev pub run : Card → List Event → Run
run card events = fold one_more (record { card = card; replies = [] }) events

-- The events name lines of the card.
abbrev pub IsAtLine : Card → Event → Type 0
IsAtLine card e = e.line < card.config.lines

abbrev pub AreAtLines : Card → List Event → Type 0
AreAtLines card events = All (IsAtLine card) events

-- A run, moment by moment: the card before each event, the event, and its answer.
pub record Moment : Type 0 where
  pub card : Card
  pub event : Event
  pub answer : Answer

unfoldable pub moments : Card → List Event → List Moment
moments card [] = []
moments card (e ∷ events) = record { card = card; event = e; answer = answer e card } ∷ moments (after e card) events

unfoldable pub after_all : Card → List Event → Card
after_all card [] = card
after_all card (e ∷ events) = after_all (after e card) events
