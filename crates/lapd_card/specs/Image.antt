-- A card in an image: its configuration, its lines, and the counters of its lines.
use Rattle.std.specs.Prelude.{◌≡◌, ◌<◌, ◌≤◌, ℕ, nat_lt, Bool, ◌&&◌, List, ◌++◌, length, get_or, flat_map, sum_by, All, Option, IfSome, is_some}
use Rattle.lapd_card.specs.Counted.{counters_in}
use Rattle.lapd_card.specs.FrameCard.{Held}
use Rattle.lapd_card.specs.FrameStands.{FrameStands}
use Rattle.lapd_card.specs.Kinds.{Machine, with_ports, alone, card_in, counters_of, AnyStands}
use Rattle.lapd_card.specs.Lines.{LinesStand}
use Rattle.lapd_card.specs.declared.kinds.AnyCard.{AnyCard}
use Rattle.lapd_count.specs.Image.{counters, IsCounted}
use Rattle.lapd_count.specs.declared.counters.Counters.{Counters}
use Rattle.lapd_image.specs.Reads.{IsReadAs}
use Rattle.lapd_line.specs.Marks.{AreMarked}
use Rattle.lapd_line.specs.Waiting.{has_next}
use Rattle.lapd_line.specs.declared.frame_line.FrameLine.{FrameLine}
use Rattle.lapd_line.specs.declared.marks.Marks.{Marks}
use Rattle.lapd_store.specs.Store.{Store}
use Rattle.model_card.specs.Card.{Card}
use Rattle.model_card.specs.Reached.{MayBegin}
use Rattle.model_card.specs.declared.kinds.CardKind.{CardKind}
use Rattle.model_card.specs.declared.kinds.CardKind.TheVariants as kinds
use Rattle.model_card.specs.ports.Card.{with_fresh_ports}
use Rattle.model_line.specs.Image.{line, IsSavedLine, IsWhole}
use Rattle.model_line.specs.Line as machine
use Rattle.model_line.specs.Line.{fresh_line}
use Rattle.model_line.specs.Stored.{slots_of}
use Rattle.model_line.specs.declared.config.Config.{Config}
use Rattle.model_line.specs.Sound.{IsInRange}

-- A configuration that may be saved: it is in range, and a seed has 16 bits.
pub record IsSavedConfig (c : Config) : Type 0 where
  pub range : IsInRange c
  pub seed : IfSome c.seed (λ n. n < 65536)

-- A seed, or none where there is none.
pub record IsSeed (there : Bool) (o : Option ℕ) : Type 0 where
  pub given : is_some o ≡ there
  pub few : IfSome o (λ n. n < 65536)

-- A card, and what was counted of each line.
pub record Lines : Type 0 where
  pub card : Card
  pub counted : List Counters

abbrev pub image_of_lines : Config → List machine.Line → List ℕ
image_of_lines c lines = flat_map (line c) lines

-- All lines, and the counters of all lines.
abbrev pub image : Lines → List ℕ
image l = image_of_lines l.card.config l.card.lines ++ flat_map counters l.counted

-- What may be saved of a card with this configuration.
pub record IsSavedOf (c : Config) (l : Lines) : Type 0 where
  pub config : l.card.config ≡ c
  pub begins : MayBegin l.card
  pub lines : All (IsSavedLine c) l.card.lines
  pub each_counted : length l.counted ≡ c.lines
  pub counted : All IsCounted l.counted

-- A card of frames stands for this.
pub record StandsFor {S : Type 0} (store : S → Store) (card : Held S) (l : Lines) : Type 0 where
  pub stands : FrameStands store card l.card
  pub counted : counters_in card.lines ≡ l.counted

-- A card of these octets was read.
abbrev pub Restores : {S : Type 0} → (S → Store) → Config → List ℕ → List ℕ → Held S → Type 0
Restores store c front rest card = (l : Lines) × IsReadAs image (IsSavedOf c) l front rest × StandsFor store card l

-- The lines of such a card, whose contents find room; and so many counters.
pub record AreWhole (c : Config) (lines : List machine.Line) : Type 0 where
  pub count : length lines ≡ c.lines
  pub each : All (IsWhole c) lines
  pub slots : sum_by (slots_of c) lines ≤ c.slots

pub record AreCounted (lines : ℕ) (counted : List Counters) : Type 0 where
  pub count : length counted ≡ lines
  pub each : All IsCounted counted

-- Lines of these octets were read, and stand over a shelf with slots for all of them.
pub record AreRead (c : Config) (front rest : List ℕ) (lines : List FrameLine) (s : Store) : Type 0 where
  pub read_as : List machine.Line
  pub read : IsReadAs (image_of_lines c) (AreWhole c) read_as front rest
  pub stand : LinesStand c lines s read_as
  pub slots : c.slots ≤ s.slots

-- Lines stand for what others stood for.
pub record StayLines (old new : List FrameLine) : Type 0 where
  pub count : length new ≡ length old
  pub stand : (c : Config) (s : Store) (ms : List machine.Line) → LinesStand c old s ms → LinesStand c new s ms

-- Those lines are marked on which a frame waits.
abbrev pub waits_in : Config → ℕ → List machine.Line → ℕ → Bool
waits_in c count ms number = nat_lt number count && has_next c (get_or ms number (fresh_line c))

abbrev pub WaitOn : List FrameLine → Marks → Type 0
WaitOn lines marks = (c : Config) (s : Store) (ms : List machine.Line) → LinesStand c lines s ms → AreMarked marks (waits_in c (length lines) ms)

-- What a card of either kind is that begins with this: one of octets has ports that begin anew.
abbrev pub begun_as : CardKind → Card → Machine
begun_as kinds.Octets card = with_ports (with_fresh_ports card)
begun_as kinds.Frames card = alone card

pub record AnyStandsFor (kind : CardKind) (card : AnyCard) (l : Lines) : Type 0 where
  pub stands : AnyStands card (begun_as kind l.card)
  pub counted : counters_of card ≡ l.counted

-- A card of either kind of these octets was read.
abbrev pub AnyRestores : CardKind → Config → List ℕ → List ℕ → AnyCard → Type 0
AnyRestores kind c front rest card = (l : Lines) × IsReadAs image (IsSavedOf c) l front rest × AnyStandsFor kind card l

-- What is saved of a card of either kind.
abbrev pub lines_of : AnyCard → Machine → Lines
lines_of card m = record { card = card_in m; counted = counters_of card }
