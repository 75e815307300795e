-- The card of an exchange, of either kind, and the board of a machine that it stands for.
use Rattle.std.specs.Prelude.{◌≡◌}
use Rattle.lapd_card.specs.Kinds.{CardStands, FrameCardStands, config_of, counters_of, kind_of}
use Rattle.lapd_card.specs.declared.kinds.AnyCard.{AnyCard}
use Rattle.lapd_card.specs.declared.kinds.AnyCard.TheVariants.{Octets, Frames}
use Rattle.lapd_sim.specs.machine.Board as machine
use Rattle.lapd_sim.specs.machine.Board.{Event, after, counted}

-- A card of octets stands for that of the board, one of frames for the card inside.
abbrev pub StandsOn : AnyCard → machine.Board → Type 0
StandsOn (Octets card) b = CardStands card b.card
StandsOn (Frames card) b = FrameCardStands card b.card.card

pub record OnBoard (card : AnyCard) (b : machine.Board) : Type 0 where
  pub kind : b.kind ≡ kind_of card
  pub config : b.config ≡ config_of card
  pub stands : StandsOn card b

-- An event leads a card from one value to another, and is counted.
pub record Leads (e : Event) (old new : AnyCard) : Type 0 where
  pub kind : kind_of new ≡ kind_of old
  pub config : config_of new ≡ config_of old
  pub stands : (b : machine.Board) → OnBoard old b → OnBoard new (after e b)
  pub counted : (b : machine.Board) → OnBoard old b → counters_of new ≡ counted (counters_of old) e b
