-- What a script is played on: a card of octets, or one of frames. Of the latter only the card inside is used; its ports stay
-- as they begin.
use Rattle.std.specs.Prelude.{ℕ, ◌<◌, Bool, List, [], ◌∷◌, All, Option, Some, None}
use Rattle.std.specs.Option.{option_map_or}
use Rattle.model_bits.specs.Stream as stream
use Rattle.lapd_count.specs.declared.counters.Counters.{Counters}
use Rattle.lapd_frame.specs.declared.refusals.Refusal.{Refusal}
use Rattle.lapd_frame.specs.declared.timers.Order.{Order}
use Rattle.lapd_frame.specs.declared.timers.Timer.{Timer}
use Rattle.model_card.specs.declared.kinds.CardKind.{CardKind}
use Rattle.model_card.specs.declared.kinds.CardKind.TheVariants.{Octets, Frames}
use Rattle.model_line.specs.declared.config.Config.{Config}
use Rattle.model_line.specs.Event as line
use Rattle.model_line.specs.Event.{LineTold, NextFrame, nothing}
use Rattle.model_line.specs.Request.{Request}
use Rattle.model_card.specs.Counted as counts
use Rattle.model_card.specs.Event as frames
use Rattle.model_card.specs.Machine as machine
use Rattle.model_card.specs.Run as runs
use Rattle.model_card.specs.ports.Card as ports
use Rattle.model_card.specs.ports.Card.{OctetCard}
use Rattle.model_card.specs.ports.Codec.{meant_in}
use Rattle.model_card.specs.ports.Event as octets
use Rattle.model_card.specs.ports.Port as port
use Rattle.model_timed.specs.Timed.{Kind}

pub record Board : Type 0 where
  pub kind : CardKind
  pub config : Config
  pub card : OctetCard

abbrev pub fresh : CardKind → Config → Board
fresh kind c = record { kind = kind; config = c; card = ports.fresh c }

-- What happens at a line: an octet comes, or the next one is called for, on a card of octets; something is heard, or the next
-- frame is called for, on one of frames; a timer expires, or layer 3 asks, on either.
pub data What : Type 0 where
  octet : ℕ → What
  pull : What
  hears : stream.Event → What
  next : What
  expiry : Timer → What
  request : Request → What

pub record Event : Type 0 where
  pub line : ℕ
  pub what : What

abbrev pub at : ℕ → What → Event
at line what = record { line = line; what = what }

-- It is an event of the card of its kind.
abbrev pub of_octets : What → Option port.Event
of_octets (octet value) = Some (port.octet value)
of_octets pull = Some port.pull
of_octets (hears e) = None
of_octets next = None
of_octets (expiry timer) = Some (port.expiry timer)
of_octets (request r) = Some (port.request r)

abbrev pub of_frames : What → Option line.Event
of_frames (octet value) = None
of_frames pull = None
of_frames (hears e) = Some (line.hears e)
of_frames next = Some line.next
of_frames (expiry timer) = Some (line.expiry timer)
of_frames (request r) = Some (line.request r)

-- What it is answered with.
pub data Reply : Type 0 where
  told : LineTold → Reply
  refused : Refusal → Reply
  pulled : ℕ → Bool → List Order → Reply
  gave : Option NextFrame → Reply

abbrev pub reply_of_octets : port.Answer → Reply
reply_of_octets (port.told t) = told t
reply_of_octets (port.refused why) = refused why
reply_of_octets (port.pulled value begun orders) = pulled value begun orders

abbrev pub reply_of_frames : line.Answer → Reply
reply_of_frames (line.told t) = told t
reply_of_frames (line.refused why) = refused why
reply_of_frames (line.gave given) = gave given

-- The board after an event, and the reply.
abbrev pub octets_after : ℕ → OctetCard → port.Event → OctetCard
octets_after number m e = ports.after (octets.at number e) m

abbrev pub frames_after : ℕ → OctetCard → line.Event → OctetCard
frames_after number m e = record m { card = machine.after (frames.at number e) m.card }

abbrev pub card_after : CardKind → Event → OctetCard → OctetCard
card_after Octets e m = option_map_or (octets_after e.line m) (of_octets e.what) m
card_after Frames e m = option_map_or (frames_after e.line m) (of_frames e.what) m

abbrev pub octets_reply : ℕ → OctetCard → port.Event → Reply
octets_reply number m e = reply_of_octets (ports.answer (octets.at number e) m)

abbrev pub frames_reply : ℕ → OctetCard → line.Event → Reply
frames_reply number m e = reply_of_frames (machine.answer (frames.at number e) m.card)

abbrev pub reply_in : CardKind → Event → OctetCard → Reply
reply_in Octets e m = option_map_or (octets_reply e.line m) (of_octets e.what) (told nothing)
reply_in Frames e m = option_map_or (frames_reply e.line m) (of_frames e.what) (told nothing)

abbrev pub after : Event → Board → Board
after e b = record b { card = card_after b.kind e b.card }

unfoldable pub reply : Event → Board → Reply
reply e b = reply_in b.kind e b.card

-- What the counters of its lines count of it: the moments of the card of frames inside.
abbrev pub octets_meant : ℕ → OctetCard → port.Event → List runs.Moment
octets_meant number m e =
    meant_in (record { card = m; event = octets.at number e; answer = ports.answer (octets.at number e) m })

abbrev pub frames_meant : ℕ → OctetCard → line.Event → List runs.Moment
frames_meant number m e = counts.moment_of m.card (frames.at number e) ∷ []

abbrev pub meant_by : CardKind → Event → OctetCard → List runs.Moment
meant_by Octets e m = option_map_or (octets_meant e.line m) (of_octets e.what) []
meant_by Frames e m = option_map_or (frames_meant e.line m) (of_frames e.what) []

unfoldable pub counted : List Counters → Event → Board → List Counters
counted all e b = counts.all_counted all (meant_by b.kind e b.card)

-- The timer orders in a reply.
abbrev pub frame_orders : NextFrame → List Order
frame_orders f = f.orders

abbrev pub orders_in : Reply → List Order
orders_in (told t) = t.orders
orders_in (refused why) = []
orders_in (pulled value begun orders) = orders
orders_in (gave given) = option_map_or frame_orders given []

-- Whole lists of events at its lines.
abbrev pub IsAtLine : Board → Event → Type 0
IsAtLine b e = e.line < b.config.lines

abbrev pub AreAtLines : Board → List Event → Type 0
AreAtLines b events = All (IsAtLine b) events

pub record Moment : Type 0 where
  pub board : Board
  pub event : Event
  pub reply : Reply

unfoldable pub moments : Board → List Event → List Moment
moments b [] = []
moments b (e ∷ events) = record { board = b; event = e; reply = reply e b } ∷ moments (after e b) events

unfoldable pub after_all : Board → List Event → Board
after_all b [] = b
after_all b (e ∷ events) = after_all (after e b) events

-- They are events of the card of its kind: of one of octets these, or of one of frames those.
abbrev pub what_of_octets : port.Event → What
what_of_octets (port.octet value) = octet value
what_of_octets (port.expiry timer) = expiry timer
what_of_octets (port.request r) = request r
what_of_octets port.pull = pull

abbrev pub what_of_frames : line.Event → What
what_of_frames (line.hears e) = hears e
what_of_frames (line.expiry timer) = expiry timer
what_of_frames (line.request r) = request r
what_of_frames line.next = next

abbrev pub octet_event : octets.Event → Event
octet_event e = record { line = e.line; what = what_of_octets e.what }

abbrev pub frame_event : frames.Event → Event
frame_event e = record { line = e.line; what = what_of_frames e.what }

-- A board that keeps its own timers: at which line an event happens, what the expiry of a timer is, what is ordered of the timers,
-- and what may happen.
abbrev pub line_of : Event → ℕ
line_of e = e.line

abbrev pub expiry_at : ℕ → Timer → Event
expiry_at number timer = at number (expiry timer)

abbrev pub orders_at : Event → Board → List Order
orders_at e b = orders_in (reply e b)

abbrev pub IsNoExpiry : What → Type 0
IsNoExpiry (expiry timer) = ⊥
IsNoExpiry other = Unit {0}

abbrev pub MayHappen : Event → Board → Type 0
MayHappen e b = IsAtLine b e × IsNoExpiry e.what

abbrev pub boards : Kind Board Event
boards = record { line = line_of; expiry = expiry_at; after = after; orders = orders_at; MayHappen = MayHappen }
