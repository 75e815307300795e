-- Laws of what is heard in a stream.
use Rattle.std.specs.Prelude.{◌≡◌, ℕ, ◌+◌, ◌≤◌, List, [], ◌∷◌, ◌++◌, length, sum_by, All, Option, option_to_list}
use Rattle.model_bits.specs.Stream.{Event, frame, overlong, dropped, room_for, heard_in}
use Rattle.model_bits.specs.StuffingLaws.{AreOctets}

-- A frame that is heard consists of octets, each 0 to 255.
abbrev pub HasOctets : Event → Type 0
HasOctets (frame octets) = AreOctets octets
HasOctets other = Unit {0}

-- An octet ends one gap at most that is an event: after any octets, what is heard with one octet more is what
-- was heard without it, and at most one event after that.
abbrev pub OneEventAnOctet : Type 0
OneEventAnOctet =
    (n201 : ℕ) (past : List ℕ) (octet : ℕ) →
    (event : Option Event) × (heard_in n201 (past ++ octet ∷ []) ≡ heard_in n201 past ++ option_to_list event)

-- How many octets of a stream a frame takes that is heard, at least: its own, here without check, the check's and a
-- flag. One that is longer than the receiver's room has more octets than that, check and all. What is dropped may take
-- none.
abbrev pub octets_taken : ℕ → Event → ℕ
octets_taken room (frame octets) = length octets + 3
octets_taken room (overlong head) = room + 2
octets_taken room (dropped cause) = 0

-- A frame that is heard has an address and a control field.
abbrev pub IsWhole : Event → Type 0
IsWhole (frame octets) = 3 ≤ length octets
IsWhole (overlong head) = Unit {0}
IsWhole (dropped cause) = Unit {0}

-- All that is heard in octets takes no more octets than there are.
pub record HeardWithinStream : Type 0 where
  pub within : (n201 : ℕ) (octets : List ℕ) → sum_by (octets_taken (room_for n201)) (heard_in n201 octets) ≤ length octets
  pub whole : (n201 : ℕ) (octets : List ℕ) → All IsWhole (heard_in n201 octets)
