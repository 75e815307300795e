-- What a frame that is taken is loaded into, and that it was.
use Rattle.std.specs.Prelude.{◌≡◌, ℕ, ◌-◌, ◌<◌, ◌≤◌, List, ◌∷◌, ◌++◌, [], length, drop, Option, Some, None}
use Rattle.model_bits.specs.Framer as framer
use Rattle.model_bits.specs.Framer.{Framing}
use Rattle.model_bits.specs.Heads.{head_of}
use Rattle.model_bits.specs.Sent.{Item, frame}
use Rattle.lapd_frame.specs.declared.timers.Order.{Order}
use Rattle.model_line.specs.Event.{NextFrame}

-- A framer, or the octets behind a reference of this name, of which so many in front are a frame.
pub data Loading : Type 0 where
  in_bits : Framing → Loading
  in_octets : List ℕ → ℕ → ℕ → Loading

-- A frame can be loaded into it: the framer has no whole octet left to give; there is room for an address and a control
-- field.
abbrev pub IsFree : Loading → Type 0
IsFree (in_bits f) = length f.left < 8
IsFree (in_octets octets n place) = 4 ≤ length octets

-- How many octets of information the frame may have.
abbrev pub room_in : Loading → ℕ
room_in (in_bits f) = f.room
room_in (in_octets octets n place) = length octets - 4

-- The name of the reference behind which it lies, if it does.
abbrev pub reference_in : Loading → ℕ
reference_in (in_bits f) = 0
reference_in (in_octets octets n place) = place

-- The frame was loaded, here without its check: the framer stands for one item more, and has its head; so many octets in
-- front are the frame, and those behind them stay.
abbrev pub Loads : List ℕ → Loading → Loading → Type 0
Loads octets (in_bits f) (in_bits g) =
    ((items : List Item) (given : List ℕ) → framer.FramerStands f items given → framer.FramerStands g (items ++ frame octets ∷ []) given)
    × (g.begun ≡ head_of octets)
Loads octets (in_octets before n place) (in_octets after m there) = (m ≡ length octets) × (after ≡ octets ++ drop m before)
Loads octets (in_bits f) (in_octets after m there) = ⊥
Loads octets (in_octets before n place) (in_bits g) = ⊥

-- The next frame, if there is one, is loaded, and answered with its orders; else what it would be loaded into stays.
abbrev pub IsNext : Option NextFrame → Option (List Order) → Loading → Loading → Type 0
IsNext None None f g = g ≡ f
IsNext (Some next) (Some orders) f g = (orders ≡ next.orders) × Loads next.octets f g
IsNext None (Some orders) f g = ⊥
IsNext (Some next) None f g = ⊥
