-- A card in C: its own timers, if it keeps them, and what a call leaves of them.
use Rattle.std.specs.Prelude.{◌≡◌, ◌<◌, ℕ, List, [], map, Bool, true, false, is_some, Option, None, Some}
use Rattle.lapd_frame.specs.declared.timers.Order.{Order}
use Rattle.model_line.specs.Event as line
use Rattle.model_card.specs.Card.{Card}
use Rattle.model_card.specs.Event.{Event}
use Rattle.model_card.specs.Machine.{after}
use Rattle.model_card.specs.ports.Card as octets
use Rattle.model_card.specs.ports.Card.{OctetCard}
use Rattle.model_card.specs.ports.Event as octet_event
use Rattle.model_card.specs.ports.Port as port
use Rattle.model_timed.specs.Changes.{Marks, inside, marks_after, noted}
use Rattle.model_timed.specs.Clock.{Clock, obeyed}
use Rattle.model_timed.specs.Frames.{orders_at}
use Rattle.model_timed.specs.Octets as timed_octets
use Rattle.model_timed.specs.Octets.{TimedOctetCard}
use Rattle.model_timed.specs.Timed.{Step, happens}
use Rattle.lapd_card.specs.Kinds.{card_in, AnyStands, Machine}
use Rattle.lapd_timed.specs.Called.{keeps_timers}
pub use Rattle.lapd_timed.specs.Stands.{ChangesStandIn, TimersStandIn}
use Rattle.lapd_timed.specs.declared.card_timers.CardTimers.{CardTimers}
use Rattle.lapd_timed.specs.declared.timed_card.TimedCard.{TimedCard}
use Rattle.lapd_c.specs.declared.card.CardHandle.{CardHandle}
use Rattle.lapd_c.specs.declared.kept.KeptCard.{KeptCard}
use Rattle.lapd_c.specs.declared.plain.reports.PlainReport.{PlainReport}
use Rattle.lapd_c.specs.Slots.{HeldCard}
use Rattle.lapd_c.specs.Cards.{card_of}
use Rattle.lapd_c.specs.LinkMarks.{MarksBecome, marks_of}
use Rattle.lapd_c.specs.Reopened.{IsFirstOpen, TellsReopened, waits_on, with_reopened}
use Rattle.lapd_c.specs.Reports.{given_up_tei}
use Rattle.lapd_c.specs.Reserved.{unused}
use Rattle.lapd_c.specs.Timers.{no_timer}

-- Its timers; none where it keeps none, or no card is there. And whether it keeps them.
abbrev pub timers_held : HeldCard → Option CardTimers
timers_held None = None
timers_held (Some kept) = kept.timed.timers

abbrev pub timers_of : CardHandle → Option CardTimers
timers_of h = timers_held (card_of h)

abbrev pub is_timed : CardHandle → Bool
is_timed h = is_some (timers_of h)

-- What an event at a line makes of them: a card keeps them if it did. Those that stood for a clock beside the card stand for that
-- which has carried out the orders of the answer, beside the card after the event. And the states in which this has left the links
-- are noted.
pub record CarryOut (line : ℕ) (orders : List Order) (m m' : Card) (old new : Option CardTimers) : Type 0 where
  pub there : is_some new ≡ is_some old
  pub timers : (c : Clock) → TimersStandIn old m c → TimersStandIn new m' (obeyed line orders c)
  pub noted : (c : Clock) (marks : Marks) → TimersStandIn old m c → ChangesStandIn old m marks → ChangesStandIn new m' (noted (obeyed line orders c).now m' marks)

-- So a call that is an event of a card: of the card of frames, of one of octets; and a call that is several of the latter.
abbrev pub Obeys : Event → Card → CardHandle → CardHandle → Type 0
Obeys e m old new = CarryOut e.line (orders_at e m) m (after e m) (timers_of old) (timers_of new)

abbrev pub ObeysMeaning : octet_event.Event → OctetCard → CardHandle → CardHandle → Type 0
ObeysMeaning e m old new = CarryOut e.line (timed_octets.orders_at e m) m.card (octets.after e m).card (timers_of old) (timers_of new)

abbrev pub happen : List octet_event.Event → List (Step octet_event.Event)
happen events = map happens events

abbrev pub timed_after : List octet_event.Event → OctetCard → Clock → TimedOctetCard
timed_after events m c = timed_octets.after_all (happen events) (record { card = m; clock = c })

pub record CarryOutAll (events : List octet_event.Event) (m : OctetCard) (old new : Option CardTimers) : Type 0 where
  pub there : is_some new ≡ is_some old
  pub timers : (c : Clock) → TimersStandIn old m.card c → TimersStandIn new (timed_after events m c).card.card (timed_after events m c).clock
  pub noted : (c : Clock) (marks : Marks) → TimersStandIn old m.card c → ChangesStandIn old m.card marks
      → ChangesStandIn new (timed_after events m c).card.card (marks_after timed_octets.octets inside (happen events) (record { card = m; clock = c }) marks)

abbrev pub ObeysAll : List octet_event.Event → OctetCard → CardHandle → CardHandle → Type 0
ObeysAll events m old new = CarryOutAll events m (timers_of old) (timers_of new)

-- What the reports of a card show: where it keeps its own timers, no orders.
abbrev pub orders_by : Bool → List Order → List Order
orders_by false orders = orders
orders_by true orders = []

abbrev pub without_orders : line.Answer → line.Answer
without_orders (line.told t) = line.told (record t { orders = [] })
without_orders (line.refused why) = line.refused why
without_orders (line.gave next) = line.gave next

abbrev pub seen_by : Bool → line.Answer → line.Answer
seen_by false answer = answer
seen_by true answer = without_orders answer

abbrev pub reply_without_orders : port.Answer → port.Answer
reply_without_orders (port.told t) = port.told (record t { orders = [] })
reply_without_orders (port.refused why) = port.refused why
reply_without_orders (port.pulled value begun orders) = port.pulled value begun []

abbrev pub reply_seen_by : Bool → port.Answer → port.Answer
reply_seen_by false answer = answer
reply_seen_by true answer = reply_without_orders answer

abbrev pub orders_seen : CardHandle → List Order → List Order
orders_seen h orders = orders_by (is_timed h) orders

-- What is written to a report after it has shown an answer.
abbrev pub count_by : Bool → ℕ → ℕ
count_by false count = count
count_by true count = 0

abbrev pub settled : TimedCard → PlainReport → PlainReport → PlainReport
settled timed from r = with_reopened from (record r { order_count = count_by (keeps_timers timed) r.order_count })

-- The report of a call at a line tells which link has room again, by each machine for which the card stands.
abbrev pub TellsRoom : ℕ → KeptCard → KeptCard → PlainReport → Type 0
TellsRoom line old new r = (m : Machine) → AnyStands old.timed.card m → line < (card_in m).config.lines → TellsReopened line (card_in m) old.refused new.refused r

-- The first link of a line that waits and has room is told, and waits no more, nor do those that are gone.
pub record TakesFirst (line : ℕ) (told : Option ℕ) (old new : KeptCard) : Type 0 where
  pub timed : new.timed ≡ old.timed
  pub first : (m : Machine) → AnyStands old.timed.card m → line < (card_in m).config.lines → IsFirstOpen told line (card_in m) (marks_of old.refused line)
  pub marks : (m : Machine) → AnyStands old.timed.card m → line < (card_in m).config.lines
      → MarksBecome line (waits_on told line (card_in m) (marks_of old.refused line)) old.refused new.refused

-- A call of a line ends: which link has room is told, and of which TEI contents are given up.
pub record Settles (line : ℕ) (named : Option ℕ) (old new : KeptCard) (r : PlainReport) : Type 0 where
  pub timed : new.timed ≡ old.timed
  pub expired : r.expired ≡ no_timer
  pub given_up : r.given_up_tei ≡ given_up_tei named r
  pub tail : r.reserved ≡ unused 15
  pub tells : TellsRoom line old new r
