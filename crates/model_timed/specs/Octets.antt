-- A card of octets that keeps its own timers.
use Rattle.std.specs.Prelude.{ℕ, ◌<◌, List, [], Option}
use Rattle.lapd_clock.specs.Timer.{Timer, Order, Lengths}
use Rattle.model_line.specs.declared.config.Config.{Config}
use Rattle.model_card.specs.ports.Card as cards
use Rattle.model_card.specs.ports.Card.{OctetCard}
use Rattle.model_card.specs.ports.Event.{Event, at}
use Rattle.model_card.specs.ports.Port as port
use Rattle.model_card.specs.ports.Port.{Answer, told, refused, pulled}
use Rattle.model_timed.specs.Clock.{stopped}
use Rattle.model_timed.specs.Timed as timed
use Rattle.model_timed.specs.Timed.{Kind, Timed, Step}

abbrev pub line_of : Event → ℕ
line_of e = e.line

abbrev pub expiry_at : ℕ → Timer → Event
expiry_at number timer = at number (port.expiry timer)

abbrev pub orders_in : Answer → List Order
orders_in (told t) = t.orders
orders_in (refused why) = []
orders_in (pulled value begun orders) = orders

abbrev pub orders_at : Event → OctetCard → List Order
orders_at e m = orders_in (cards.answer e m)

-- Anything but an expiry may happen at a line.
abbrev pub IsNoExpiry : port.Event → Type 0
IsNoExpiry (port.expiry timer) = ⊥
IsNoExpiry other = Unit {0}

abbrev pub MayHappen : Event → OctetCard → Type 0
MayHappen e m = (e.line < m.card.config.lines) × IsNoExpiry e.what

abbrev pub octets : Kind OctetCard Event
octets = record { line = line_of; expiry = expiry_at; after = cards.after; orders = orders_at; MayHappen = MayHappen }

abbrev pub TimedOctetCard : Type 0
TimedOctetCard = Timed OctetCard

-- As it begins, at moment 0.
abbrev pub fresh : Config → Lengths → TimedOctetCard
fresh c lengths = record { card = cards.fresh c; clock = stopped lengths }

-- Where a step leads, and a list of them; which events of the card they are; and whether they are prompt.
abbrev pub after : Step Event → TimedOctetCard → TimedOctetCard
after s t = timed.after octets s t

abbrev pub after_all : List (Step Event) → TimedOctetCard → TimedOctetCard
after_all steps t = timed.after_all octets steps t

abbrev pub event_of : Step Event → TimedOctetCard → Option Event
event_of s t = timed.event_of octets s t

abbrev pub events_of : List (Step Event) → TimedOctetCard → List Event
events_of steps t = timed.events_of octets steps t

abbrev pub ArePrompt : ℕ → List (Step Event) → TimedOctetCard → Type 0
ArePrompt late steps t = timed.ArePrompt octets late steps t
