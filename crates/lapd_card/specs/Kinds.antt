-- The two kinds of cards: of octets, and of whole frames.
use Rattle.std.specs.Prelude.{◌≡◌, ℕ, List}
use Rattle.lapd_count.specs.declared.counters.Counters.{Counters}
use Rattle.model_card.specs.Card.{Card}
use Rattle.model_card.specs.Counted.{moment_counted, moment_of}
use Rattle.model_card.specs.Event.{Event}
use Rattle.model_card.specs.Machine as machine
use Rattle.model_card.specs.Stored as of_frames
use Rattle.model_line.specs.Event.{Answer}
use Rattle.model_line.specs.declared.config.Config.{Config}
use Rattle.model_card.specs.ports.Card.{OctetCard}
use Rattle.model_card.specs.ports.Stored as of_octets
use Rattle.lapd_store.specs.Store.{Store}
use Rattle.lapd_card.specs.Card as octets
use Rattle.lapd_card.specs.Counted.{counters_in}
use Rattle.lapd_card.specs.FrameCard as frames
use Rattle.lapd_card.specs.FrameStands.{FrameStands}
use Rattle.lapd_card.specs.Stands.{OctetCardStands}
use Rattle.lapd_card.specs.declared.kinds.AnyCard.{AnyCard}
use Rattle.lapd_card.specs.declared.kinds.AnyCard.TheVariants.{Octets, Frames}
use Rattle.model_card.specs.declared.kinds.CardKind.{CardKind}
use Rattle.model_card.specs.declared.kinds.CardKind.TheVariants as kinds

abbrev pub kind_of : AnyCard → CardKind
kind_of (Octets card) = kinds.Octets
kind_of (Frames card) = kinds.Frames

-- The card of frames: itself, or the one inside; its configuration, and the counters of its lines.
abbrev pub frames_of : AnyCard → frames.Held Store
frames_of (Octets card) = card.frames
frames_of (Frames card) = card

abbrev pub config_of : AnyCard → Config
config_of card = (frames_of card).config

abbrev pub line_count : AnyCard → ℕ
line_count card = (config_of card).lines

abbrev pub counters_of : AnyCard → List Counters
counters_of card = counters_in (frames_of card).lines

-- The card's shelf, as its contracts see it.
abbrev pub shelf_of : Store → Store
shelf_of s = s

-- The machine of a card: one of octets, or one of frames.
pub data Machine : Type 0 where
  with_ports : OctetCard → Machine
  alone : Card → Machine

-- The card of frames, with its ports or alone.
abbrev pub card_in : Machine → Card
card_in (with_ports m) = m.card
card_in (alone m) = m

-- An expiry and a request are events at the card of frames, and concern no port.
abbrev pub after : Event → Machine → Machine
after e (with_ports m) = with_ports (record m { card = machine.after e m.card })
after e (alone m) = alone (machine.after e m)

abbrev pub answer : Event → Machine → Answer
answer e m = machine.answer e (card_in m)

-- How many octets a card stores.
abbrev pub stored : Machine → ℕ
stored (with_ports m) = of_octets.stored m
stored (alone m) = of_frames.stored m

-- A card of octets stands for a machine; one of frames; one of either kind.
abbrev pub CardStands : octets.Held Store → OctetCard → Type 0
CardStands c m = OctetCardStands shelf_of c m

abbrev pub FrameCardStands : frames.Held Store → Card → Type 0
FrameCardStands c m = FrameStands shelf_of c m

abbrev pub AnyStands : AnyCard → Machine → Type 0
AnyStands (Octets c) (with_ports m) = CardStands c m
AnyStands (Octets c) (alone m) = ⊥
AnyStands (Frames c) (with_ports m) = ⊥
AnyStands (Frames c) (alone m) = FrameCardStands c m

-- An event at the card of frames leads a card from one value to another, of the same kind, and is counted.
pub record AnyLeads (e : Event) (old new : AnyCard) : Type 0 where
  pub kind : kind_of new ≡ kind_of old
  pub config : config_of new ≡ config_of old
  pub stands : (m : Machine) → AnyStands old m → AnyStands new (after e m)
  pub counted : (m : Machine) → AnyStands old m → counters_of new ≡ moment_counted (counters_of old) (moment_of (card_in m) e)
