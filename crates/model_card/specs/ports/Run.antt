-- Whole lists of events of octets.
use Rattle.std.specs.Prelude.{ℕ, ◌<◌, List, [], ◌∷◌, ◌++◌, fold, All, option_to_list}
use Rattle.model_card.specs.Event as frames
use Rattle.model_card.specs.ports.Event.{Event}
use Rattle.model_card.specs.ports.Card.{OctetCard, after, answer, meant}
use Rattle.model_card.specs.ports.Port.{Answer}

-- Where a list of events leads: the card after it, and the replies, in order, each with its line.
pub record Run : Type 0 where
  pub card : OctetCard
  pub replies : List (ℕ × Answer)

abbrev pub one_more : Run → Event → Run
one_more r e = record { card = after e r.card; replies = r.replies ++ (e.line, answer e r.card) ∷ [] }

abbrev pub run : OctetCard → List Event → Run
run card events = fold one_more (record { card = card; replies = [] }) events

-- The events name lines of the card.
abbrev pub IsAtLine : OctetCard → Event → Type 0
IsAtLine m e = e.line < m.card.config.lines

abbrev pub AreAtLines : OctetCard → List Event → Type 0
AreAtLines m events = All (IsAtLine m) events

-- A run, moment by moment: the card before each event, the event, and its answer.
pub record Moment : Type 0 where
  pub card : OctetCard
  pub event : Event
  pub answer : Answer

unfoldable pub moments : OctetCard → List Event → List Moment
moments m [] = []
moments m (e ∷ events) = record { card = m; event = e; answer = answer e m } ∷ moments (after e m) events

unfoldable pub after_all : OctetCard → List Event → OctetCard
after_all m [] = m
after_all m (e ∷ events) = after_all (after e m) events

-- What they mean to the card of frames, in order.
unfoldable pub meant_all : OctetCard → List Event → List frames.Event
meant_all m [] = []
meant_all m (e ∷ events) = option_to_list (meant e m) ++ meant_all (after e m) events
