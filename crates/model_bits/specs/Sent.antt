-- What goes out on a line (Q.921 clauses 2.2, 2.6 and 2.7).
use Rattle.std.specs.Prelude.{ℕ, Bool, List, ◌++◌, flat_map}
use Rattle.model_bits.specs.Bits.{bits, flag}
use Rattle.model_bits.specs.Stuffing.{stuffed}
use Rattle.model_bits.specs.Check.{check}

-- What a sender puts on a line after the opening flag: an idle flag, or a frame, here without its check.
pub data Item : Type 0 where
  idle : Item
  frame : List ℕ → Item

-- The text of a frame: its bits and its check, stuffed.
abbrev pub frame_text : List ℕ → List Bool
frame_text octets = stuffed (bits octets ++ check (bits octets))

-- An item's bits. A frame's closing flag opens the next one.
abbrev pub item_text : Item → List Bool
item_text idle = flag
item_text (frame octets) = frame_text octets ++ flag

-- The bits of a line: one opening flag, and the items.
abbrev pub line_text : List Item → List Bool
line_text items = flag ++ flat_map item_text items
