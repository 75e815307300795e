-- A card as C holds it.
use Rattle.std.specs.Prelude.{◌≡◌, List, [], is_some, Option, None, Some, option_map}
use Rattle.model_card.specs.Card.{Card}
use Rattle.model_card.specs.ports.Card.{OctetCard}
use Rattle.lapd_c.specs.declared.card.CardHandle.{CardHandle}
use Rattle.lapd_c.specs.declared.kept.KeptCard.{KeptCard}
use Rattle.lapd_card.specs.declared.kinds.AnyCard.{AnyCard}
use Rattle.lapd_c.specs.declared.link_marks.LinkMarks.{LinkMarks}
use Rattle.lapd_c.specs.Slots.{HeldCard}
use Rattle.lapd_card.specs.Kinds.{kind_of, Machine, with_ports, alone, AnyStands}
use Rattle.model_card.specs.declared.kinds.CardKind.{CardKind}

-- The card that is there, with the marks of its links that wait for room, or none; that card alone; and its kind.
abbrev pub card_of : CardHandle → HeldCard
card_of h = h.slot.card

abbrev pub without_marks : KeptCard → AnyCard
without_marks kept = kept.timed.card

abbrev pub served_card : CardHandle → Option AnyCard
served_card h = option_map without_marks (card_of h)

abbrev pub kind_in : CardHandle → Option CardKind
kind_in h = option_map kind_of (served_card h)

-- The marks, line by line; of no card, none.
abbrev pub marks_held : HeldCard → List LinkMarks
marks_held None = []
marks_held (Some kept) = kept.refused

abbrev pub marks_at : CardHandle → List LinkMarks
marks_at h = marks_held (card_of h)

-- It says of itself whether one is there.
abbrev pub IsHandle : CardHandle → Type 0
IsHandle h = h.started ≡ is_some (card_of h)

-- What C holds stands for a machine, where a card is there and does: for one of either kind, one of octets, one of frames.
abbrev pub StandsIn : HeldCard → Machine → Type 0
StandsIn None m = ⊥
StandsIn (Some kept) m = AnyStands kept.timed.card m

abbrev pub HandleStands : CardHandle → Machine → Type 0
HandleStands h m = StandsIn (card_of h) m

abbrev pub OctetsStand : CardHandle → OctetCard → Type 0
OctetsStand h m = HandleStands h (with_ports m)

abbrev pub FramesStand : CardHandle → Card → Type 0
FramesStand h m = HandleStands h (alone m)
