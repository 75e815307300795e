-- A framer as its callers see it, and what it stands for: the items that were put on a line up to now, and the
-- octets of them that were given.
--
-- A framer begins with no items; the opening flag belongs to the line. `load` adds a frame to the items, and `octet`
-- an idle flag where the bits run low. So the octets given are a beginning of the bits of the items at all times:
-- nothing is left out, put in or changed.
use Rattle.std.specs.Prelude.{◌≡◌, ℕ, nat_lt, Bool, List, [], ◌∷◌, ◌++◌, length, Option, if◌then◌else◌}
use Rattle.model_bits.specs.Bits.{bits, flag}
use Rattle.model_bits.specs.Heads.{latest_frame, head_of}
use Rattle.model_bits.specs.Sent.{Item, idle, frame, line_text}
use Rattle.model_bits.specs.declared.heads.Head.{Head}

-- What a framer holds: the bits that are left to give; the octets, without check, of the last item, where that
-- is a frame and eight bits or more are left, else 0; how the latest frame begins, and all its octets, without check; and how
-- many octets of information a frame may have.
pub record Framing : Type 0 where
  pub left : List Bool
  pub held : ℕ
  pub begun : Option Head
  pub loaded : List ℕ
  pub room : ℕ

-- Fewer than eight bits are left: not enough for an octet.
abbrev pub runs_low : List Bool → Bool
runs_low left = nat_lt (length left) 8

-- The bits that an octet is taken from. An idle flag goes on exactly where they run low (profile).
abbrev pub refilled : List Bool → List Bool
refilled left = if runs_low left then left ++ flag else left

-- The items, once an octet has been taken.
abbrev pub with_idle : List Bool → List Item → List Item
with_idle left items = if runs_low left then items ++ idle ∷ [] else items

-- What is still held of a frame where these bits are left.
abbrev pub still_held : List Bool → ℕ → ℕ
still_held left octets = if runs_low left then 0 else octets

-- The octets of an item, without check.
abbrev pub item_octets : Item → ℕ
item_octets idle = 0
item_octets (frame octets) = length octets

-- Those of the last item.
abbrev pub last_octets : List Item → ℕ
last_octets [] = 0
last_octets (item ∷ []) = item_octets item
last_octets (_ ∷ item ∷ items) = last_octets (item ∷ items)

-- A framer stands for these items and these octets given: the octets are the beginning of the bits of the
-- items, cut in eights, and what is left are the others.
pub record FramerStands (framer : Framing) (items : List Item) (given : List ℕ) : Type 0 where
  pub text : line_text items ≡ bits given ++ framer.left
  pub held : framer.held ≡ still_held framer.left (last_octets items)
  pub begun : framer.begun ≡ head_of (latest_frame items)
  pub loaded : framer.loaded ≡ latest_frame items
