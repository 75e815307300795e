-- The two kinds of cards: what is said of one kind alone.
use Rattle.std.specs.Prelude.{ℕ, List, []}
use Rattle.lapd_card.specs.Stands as octets_stand
use Rattle.lapd_card.specs.FrameCard.{room_for_frames}
use Rattle.lapd_card.specs.FrameStands as frames_stand
use Rattle.lapd_card.specs.Kinds.{frames_of, shelf_of}
use Rattle.lapd_card.specs.declared.kinds.AnyCard.{AnyCard}
use Rattle.lapd_card.specs.declared.kinds.AnyCard.TheVariants.{Octets, Frames}
use Rattle.lapd_line.specs.declared.port.Port.{Port}
use Rattle.model_card.specs.Event as frame
use Rattle.model_card.specs.ports.Event as octet

-- An event leads a card of octets from one value to another, or one of frames.
abbrev pub LedByOctets : octet.Event → AnyCard → AnyCard → Type 0
LedByOctets e (Octets old) (Octets new) = octets_stand.Leads shelf_of e old new
LedByOctets e _ _ = ⊥

abbrev pub LedByFrames : frame.Event → AnyCard → AnyCard → Type 0
LedByFrames e (Frames old) (Frames new) = frames_stand.Leads shelf_of e old new
LedByFrames e _ _ = ⊥

-- The ports of a card of octets; and the room that every frame of a card fits into.
abbrev pub ports_of : AnyCard → List Port
ports_of (Octets card) = card.ports
ports_of (Frames card) = []

abbrev pub room_of : AnyCard → ℕ
room_of card = room_for_frames (frames_of card)
