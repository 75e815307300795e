-- What goes out on a line is heard at its other end.
--
-- It joins Sent and Stream, which do not name each other: most mistakes in one of them alone would break it. Once
-- `octet` of a framer was called with fewer than eight bits left, the octets given meet its premise; so a deframer
-- that takes them answers exactly the frames that were loaded, where it takes each for whole. `tests/streams` has
-- one more reading of clause 2, in Python, over the whole list of a stream's bits, and compares the program with it.
use Rattle.std.specs.Prelude.{◌≡◌, ℕ, ◌+◌, ◌<◌, ◌≤◌, ◌%◌, ◌⊎◌, List, [], ◌∷◌, ◌++◌, length, take, slice_index}
use Rattle.model_bits.specs.Bits.{bits, flag}
use Rattle.model_bits.specs.StuffingLaws.{AreOctets}
use Rattle.model_bits.specs.Stream as stream
use Rattle.model_bits.specs.Stream.{Event, heard_in}
use Rattle.model_bits.specs.Sent.{Item, idle, frame, line_text}

-- A frame, here without its check, that a receiver for `n201` octets of information takes for one: neither short
-- nor overlong. It has four octets or more, or three, of which the last begins no control field of two.
pub record IsHeardWhole (n201 : ℕ) (octets : List ℕ) : Type 0 where
  pub octets_are : AreOctets octets
  pub not_short : (4 ≤ length octets) ⊎ ((length octets ≡ 3) × (slice_index octets 2 % 4 ≡ 3))
  pub not_long : length octets ≤ n201 + 4

-- Each frame among the items is such a frame.
abbrev pub AreHeardWhole : ℕ → List Item → Type 0
AreHeardWhole n201 [] = Unit {0}
AreHeardWhole n201 (idle ∷ items) = AreHeardWhole n201 items
AreHeardWhole n201 (frame octets ∷ items) = IsHeardWhole n201 octets × AreHeardWhole n201 items

-- The frames among the items, as a receiver hears them.
abbrev pub frames_of : List Item → List Event
frames_of [] = []
frames_of (idle ∷ items) = frames_of items
frames_of (frame octets ∷ items) = stream.frame octets ∷ frames_of items

-- The octets of a line that carries these items, and then perhaps the beginning of one more idle flag, are heard
-- as exactly the frames among the items, in order.
abbrev pub FramesRoundTrip : Type 0
FramesRoundTrip =
    (n201 : ℕ) (items : List Item) (octets : List ℕ) (more : ℕ) → more < 8 → AreHeardWhole n201 items →
    bits octets ≡ line_text items ++ take more flag → heard_in n201 octets ≡ frames_of items
