-- Of which cards a call is.
use Rattle.std.specs.Prelude.{◌≡◌, ◌<◌, ◌≤◌, ◌+◌, ℕ, true, false, Some}
use Rattle.model_card.specs.Card.{Card}
use Rattle.model_card.specs.ports.Card.{OctetCard}
use Rattle.model_card.specs.declared.kinds.CardKind.TheVariants as kinds
use Rattle.lapd_card.specs.Kinds.{Machine, with_ports, alone, card_in}
use Rattle.lapd_c.specs.declared.card.CardHandle.{CardHandle}
use Rattle.lapd_c.specs.Cards.{kind_in, HandleStands, OctetsStand, FramesStand}
use Rattle.lapd_c.specs.Kept.{is_timed}

-- Of each; of those of one kind; of those whose timers are the caller's.
pub data Wanted : Type 0 where
  of_any : Wanted
  of_octets : Wanted
  of_frames : Wanted
  of_untimed : Wanted

-- A card is none of these.
abbrev pub IsOther : Wanted → CardHandle → Type 0
IsOther of_any h = ⊥
IsOther of_octets h = kind_in h ≡ Some kinds.Frames
IsOther of_frames h = kind_in h ≡ Some kinds.Octets
IsOther of_untimed h = is_timed h ≡ true

-- What C holds stands for a machine, and its timers are the caller's.
abbrev pub UntimedStands : CardHandle → Machine → Type 0
UntimedStands h m = HandleStands h m × (is_timed h ≡ false)

-- What holds of each machine that stands for such a card; and of each with this line.
abbrev pub OfEach : Wanted → CardHandle → (Machine → Type 0) → Type 0
OfEach of_any h holds = (m : Machine) → HandleStands h m → holds m
OfEach of_octets h holds = (m : OctetCard) → OctetsStand h m → holds (with_ports m)
OfEach of_frames h holds = (m : Card) → FramesStand h m → holds (alone m)
OfEach of_untimed h holds = (m : Machine) → UntimedStands h m → holds m

abbrev pub WithLine : Wanted → ℕ → CardHandle → (Machine → Type 0) → Type 0
WithLine of line h holds = OfEach of h (λ m. line < (card_in m).config.lines → holds m)

abbrev pub OctetsWithLine : ℕ → CardHandle → (OctetCard → Type 0) → Type 0
OctetsWithLine line h holds = (m : OctetCard) → OctetsStand h m → line < m.card.config.lines → holds m

abbrev pub FramesWithLine : ℕ → CardHandle → (Card → Type 0) → Type 0
FramesWithLine line h holds = (m : Card) → FramesStand h m → line < m.config.lines → holds m

-- And where a room is long enough for the longest frame.
abbrev pub FramesWithRoom : ℕ → ℕ → CardHandle → (Card → Type 0) → Type 0
FramesWithRoom line room h holds = FramesWithLine line h (λ m. m.config.n201 + 4 ≤ room → holds m)
