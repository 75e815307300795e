-- A card and its timers in an image.
use Rattle.std.specs.List.{AllZip}
use Rattle.std.specs.Prelude.{◌≡◌, ◌≤◌, ◌/◌, ◌%◌, ◌^◌, ◌==◌, ℕ, Bool, true, false, List, [], ◌∷◌, ◌++◌, All, is_some, flat_map, length, get_or, map, take, Option, None, Some, if◌then◌else◌}
use Rattle.lapd_card.specs.Image.{begun_as, image, AnyStandsFor, IsSavedConfig, IsSavedOf, Lines}
use Rattle.lapd_card.specs.Kinds.{counters_of, frames_of, kind_of, AnyStands, FrameCardStands}
use Rattle.lapd_card.specs.declared.kinds.AnyCard.{AnyCard}
use Rattle.lapd_card.specs.declared.kinds.AnyCard.TheVariants.{Octets, Frames}
use Rattle.lapd_clock.specs.Timer.{Lengths}
use Rattle.lapd_image.specs.Reads.{IsReadAs}
use Rattle.lapd_timed.specs.Stands.{ChangesStand, TimersStand}
use Rattle.lapd_timed.specs.declared.card_timers.CardTimers.{CardTimers}
use Rattle.model_bits.specs.Bits.{number_of}
use Rattle.model_card.specs.Card.{Card, line_at}
use Rattle.model_card.specs.declared.kinds.CardKind.{CardKind}
use Rattle.model_card.specs.declared.kinds.CardKind.TheVariants as kinds
use Rattle.model_image.specs.Clocks.{clock}
use Rattle.model_line.specs.ConfigImage.{config}
use Rattle.model_image.specs.Images.{Saved, changes, marks}
use Rattle.model_image.specs.Images.{marks as marks_of}
use Rattle.model_image.specs.Restored.{IsRestored}
use Rattle.model_image.specs.Sound.{AreChanges, AreMarks, IsClockOf}
use Rattle.model_line.specs.Line.{link_count}
use Rattle.model_line.specs.declared.config.Config.{Config}
use Rattle.model_timed.specs.Changes.{Marks, standing}
use Rattle.model_timed.specs.Clock.{Clock}

-- The kind of a card that is saved.
abbrev pub kind_in : Saved → CardKind
kind_in s = if s.of_octets then kinds.Octets else kinds.Frames

-- Whether a card is one of octets.
abbrev pub is_octets : AnyCard → Bool
is_octets (Octets card) = true
is_octets (Frames card) = false

-- A moment for each link of each line.
pub record HasRows (c : Config) (changed : List (List ℕ)) : Type 0 where
  pub lines : length changed ≡ c.lines
  pub links : All (λ row. length row ≡ link_count c) changed

-- What is noted of each link of a card: its state, and the moment at which this became so.
abbrev pub marks_in : Card → List (List ℕ) → Marks
marks_in card changed line number = record { state = standing number (line_at line card); moment = get_or (get_or changed line []) number 0 }

-- Timers stand for a clock beside a card, and what they have noted of its links for these moments.
pub record AreSaved (timers : CardTimers) (card : Card) (c : Clock) (changed : List (List ℕ)) : Type 0 where
  pub stand : TimersStand timers card c
  pub noted : ChangesStand timers card (marks_in card changed)
  pub rows : HasRows card.config changed

-- What an image begins with: of a card of octets or not, and with its own timers or not.
abbrev pub head_of : Bool → Bool → List ℕ
head_of of_octets timed = 76 ∷ 65 ∷ 80 ∷ 68 ∷ 1 ∷ number_of (of_octets ∷ timed ∷ []) ∷ []

-- The card that is saved, with the counters of its lines.
abbrev pub lines_in : Saved → Lines
lines_in s = record { card = s.card; counted = s.counted }

-- What it has before the timers.
abbrev pub card_part : Saved → List ℕ
card_part s = head_of s.of_octets (is_some s.clock) ++ (config s.card.config ++ (image (lines_in s) ++ flat_map marks s.waits))

-- And of the timers.
abbrev pub timers_part : Card → Clock → List (List ℕ) → List ℕ
timers_part card c changed = clock card (Some c) ++ flat_map changes changed

-- A card and the counters of its lines that may be saved, with its configuration; what an image has of them; and such a card, of this
-- kind, was read.
pub record IsSavedCard (l : Lines) : Type 0 where
  pub config : IsSavedConfig l.card.config
  pub lines : IsSavedOf l.card.config l

abbrev pub card_octets : Lines → List ℕ
card_octets l = config l.card.config ++ image l

abbrev pub IsCardRead : CardKind → AnyCard → List ℕ → List ℕ → Type 0
IsCardRead kind card front rest = (l : Lines) × IsReadAs card_octets IsSavedCard l front rest × AnyStandsFor kind card l

-- On each line links wait only where there is a TEI.
abbrev pub AreAllMarks : Saved → Type 0
AreAllMarks s = AllZip (AreMarks s.card.config) s.card.lines s.waits

abbrev pub MayBeSaved : Option CardTimers → Option Clock → Saved → Type 0
MayBeSaved None None s = s.changed ≡ []
MayBeSaved None (Some c) s = ⊥
MayBeSaved (Some timers) None s = ⊥
MayBeSaved (Some timers) (Some c) s = AreSaved timers s.card c s.changed

-- Four lengths, in the order of an image.
abbrev pub these_lengths : ℕ → ℕ → ℕ → ℕ → Lengths
these_lengths t200 t203 t201 t202 = record { t200 = t200; t203 = t203; t201 = t201; t202 = t202 }

-- What may be saved of a clock beside a card, and of the changes of its links.
pub record MayStandBeside (card : Card) (c : Clock) (changed : List (List ℕ)) : Type 0 where
  pub clock : IsClockOf card c
  pub rows : AreChanges card.config (Some c) changed

-- Timers were read that may be saved beside a card; and none such are at the front.
pub record AreReadFrom (card : Card) (timers : CardTimers) (front rest : List ℕ) : Type 0 where
  pub clock : Clock
  pub changed : List (List ℕ)
  pub saved : MayStandBeside card clock changed
  pub octets : front ≡ timers_part card clock changed ++ rest
  pub stand : AreSaved timers card clock changed

abbrev pub HasNoTimers : Card → List ℕ → Type 0
HasNoTimers card front = (c : Clock) (changed : List (List ℕ)) (rest : List ℕ) → MayStandBeside card c changed → front ≡ timers_part card c changed ++ rest → ⊥

-- A card stands for what is saved, with its timers, and with numbers of 16 bits that say which links of each line wait: bit 1 the
-- link of number 0, and so on.
pub record StandsFor (card : AnyCard) (waits : List ℕ) (timers : Option CardTimers) (s : Saved) : Type 0 where
  pub kind : kind_of card ≡ kind_in s
  pub lines : FrameCardStands (frames_of card) s.card
  pub counted : counters_of card ≡ s.counted
  pub waiting : map number_of s.waits ≡ take s.card.config.lines waits
  pub kept : MayBeSaved timers s.clock s

-- A card was restored from an image. It stands for what this says, as a card whose ports begin anew; and no links wait of lines that
-- it has not.
pub record IsRestoredFrom (octets : List ℕ) (card : AnyCard) (waits : List ℕ) (timers : Option CardTimers) : Type 0 where
  pub saved : Saved
  pub restored : IsRestored octets saved
  pub stands : StandsFor card waits timers saved
  pub begins : AnyStands card (begun_as (kind_in saved) saved.card)
  pub others : (line : ℕ) → saved.card.config.lines ≤ line → get_or waits line 0 ≡ 0

-- Which links of each line wait was read, as the lists of what may be saved and as numbers; and a bit of such a number.
pub record AreWaitsRead (card : Card) (waits front rest : List ℕ) : Type 0 where
  pub saved : List (List Bool)
  pub marks : AllZip (AreMarks card.config) card.lines saved
  pub octets : front ≡ flat_map marks_of saved ++ rest
  pub numbers : map number_of saved ≡ take card.config.lines waits
  pub others : (line : ℕ) → card.config.lines ≤ line → get_or waits line 0 ≡ 0

abbrev pub is_bit_set : ℕ → ℕ → Bool
is_bit_set links number = links / 2 ^ number % 2 == 1

abbrev pub is_kind_of_octets : CardKind → Bool
is_kind_of_octets kinds.Octets = true
is_kind_of_octets kinds.Frames = false

-- Timers that may be saved beside a card were read, if it keeps its own; and if it does, none such are at the front.
abbrev pub AreTimersRead : Card → Bool → Option CardTimers → List ℕ → List ℕ → Type 0
AreTimersRead card timed None front rest = (timed ≡ false) × (front ≡ rest)
AreTimersRead card timed (Some timers) front rest = (timed ≡ true) × AreReadFrom card timers front rest

abbrev pub HaveNoTimers : Card → Bool → List ℕ → Type 0
HaveNoTimers card timed front = (timed ≡ true) × HasNoTimers card front
