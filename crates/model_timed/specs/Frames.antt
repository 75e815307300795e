-- A card of frames that keeps its own timers.
use Rattle.std.specs.Prelude.{ℕ, ◌<◌, List, Option}
use Rattle.lapd_clock.specs.Timer.{Timer, Order, Lengths}
use Rattle.model_line.specs.Event as line
use Rattle.model_line.specs.Laws.{orders_in}
use Rattle.model_line.specs.declared.config.Config.{Config}
use Rattle.model_card.specs.Card as cards
use Rattle.model_card.specs.Card.{Card}
use Rattle.model_card.specs.Event.{Event, at}
use Rattle.model_card.specs.Machine as machine
use Rattle.model_timed.specs.Clock.{stopped}
use Rattle.model_timed.specs.Timed as timed
use Rattle.model_timed.specs.Timed.{Kind, Timed, Step}

abbrev pub line_of : Event → ℕ
line_of e = e.line

abbrev pub expiry_at : ℕ → Timer → Event
expiry_at number timer = at number (line.expiry timer)

abbrev pub orders_at : Event → Card → List Order
orders_at e card = orders_in (machine.answer e card)

-- Anything but an expiry may happen at a line.
abbrev pub IsNoExpiry : line.Event → Type 0
IsNoExpiry (line.expiry timer) = ⊥
IsNoExpiry other = Unit {0}

abbrev pub MayHappen : Event → Card → Type 0
MayHappen e card = (e.line < card.config.lines) × IsNoExpiry e.what

abbrev pub frames : Kind Card Event
frames = record { line = line_of; expiry = expiry_at; after = machine.after; orders = orders_at; MayHappen = MayHappen }

abbrev pub TimedCard : Type 0
TimedCard = Timed Card

-- As it begins, at moment 0.
abbrev pub fresh : Config → Lengths → TimedCard
fresh c lengths = record { card = cards.fresh c; clock = stopped lengths }

-- Where a step leads, and a list of them; which events of the card they are; and whether they are prompt.
abbrev pub after : Step Event → TimedCard → TimedCard
after s t = timed.after frames s t

abbrev pub after_all : List (Step Event) → TimedCard → TimedCard
after_all steps t = timed.after_all frames steps t

abbrev pub event_of : Step Event → TimedCard → Option Event
event_of s t = timed.event_of frames s t

abbrev pub events_of : List (Step Event) → TimedCard → List Event
events_of steps t = timed.events_of frames steps t

abbrev pub ArePrompt : ℕ → List (Step Event) → TimedCard → Type 0
ArePrompt late steps t = timed.ArePrompt frames late steps t
