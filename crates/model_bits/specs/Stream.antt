-- What is heard in a stream of bits (Q.921 clauses 2.2, 2.6, 2.7, 2.9 and 2.10).
-- A place in a stream is named by the bits up to it, the latest bit first.
use Rattle.std.specs.Prelude.{ℕ, ◌+◌, Bool, true, false, not, ◌&&◌, ◌||◌, List, [], ◌∷◌, ◌++◌, length, take, drop, reverse, Option, Some, None, option_map, option_to_list, nat_eq, nat_lt, slice_index, ◌%◌, ◌-◌, option_and_then, if◌then◌else◌}
use Rattle.model_bits.specs.Bits.{bits}
use Rattle.model_bits.specs.Stuffing.{octets_sent}
use Rattle.model_bits.specs.Check.{is_good}
use Rattle.model_bits.specs.declared.heard.Cause.{Cause}
use Rattle.model_bits.specs.declared.heard.Cause.TheVariants.{Abort, Ragged, Short, Fcs}

-- What a stretch between two flags is heard as: a frame, without its check; the first four octets of one
-- that is longer than the receiver has room for (profile); or the cause for which it is dropped.
pub data Event : Type 0 where
  frame : List ℕ → Event
  overlong : List ℕ → Event
  dropped : Cause → Event

-- A flag (clause 2.2) ends at this place: the latest eight bits are 01111110.
abbrev pub ends_flag : List Bool → Bool
ends_flag (false ∷ true ∷ true ∷ true ∷ true ∷ true ∷ true ∷ false ∷ _) = true
ends_flag _ = false

-- Seven contiguous 1s end at this place: an abort (clause 2.10).
abbrev pub ends_abort : List Bool → Bool
ends_abort (true ∷ true ∷ true ∷ true ∷ true ∷ true ∷ true ∷ _) = true
ends_abort _ = false

-- The bits since the latest flag, the latest bit first; none where no flag has been.
abbrev pub since_flag : List Bool → Option (List Bool)
since_flag [] = None
since_flag (b ∷ past) = if ends_flag (b ∷ past) then Some [] else option_map (λ g. b ∷ g) (since_flag past)

-- Seven contiguous 1s stand somewhere in these bits.
abbrev pub has_abort : List Bool → Bool
has_abort [] = false
has_abort (b ∷ g) = ends_abort (b ∷ g) || has_abort g

-- Too short for a frame (clause 2.9): fewer than 5 octets with the check; or 5, where the third is the
-- control octet of a format that has two.
abbrev pub is_short : List ℕ → Bool
is_short octets =
    nat_lt (length octets) 5 || (nat_eq (length octets) 5 && not (nat_eq (slice_index octets 2 % 4) 3))

-- How the octets between two flags are judged, by a receiver with room for frames of `room` octets, check
-- and all. The order of the tests is the profile's.
abbrev pub judged : ℕ → List ℕ → Event
judged room octets =
    if is_short octets then dropped Short
    else if not (is_good (bits octets)) then dropped Fcs
    else if nat_lt room (length octets) then overlong (take 4 octets)
    else frame (take (length octets - 2) octets)

-- How a gap, the bits between two flags, is judged: by the octets of which a sender makes it, and where there
-- are none, it is ragged.
abbrev pub text_event : ℕ → Option (List ℕ) → Event
text_event room None = dropped Ragged
text_event room (Some octets) = judged room octets

abbrev pub gap_event : ℕ → List Bool → Event
gap_event room gap = text_event room (octets_sent gap)

-- What a flag that ends here closes, where `g` are the bits since the flag before it, up to its own last
-- bit. Its first seven bits are among them. No gap is no event, nor is one that was given up at an abort.
abbrev pub closed_by_flag : ℕ → List Bool → Option Event
closed_by_flag room g =
    if nat_lt (length g) 8 || has_abort g then None else Some (gap_event room (reverse (drop 7 g)))

-- What the first seven contiguous 1s since a flag give up, where `g` are the bits since that flag. Where
-- they begin right after the flag, nothing was begun (profile).
abbrev pub given_up : List Bool → Option Event
given_up g =
    if ends_abort g && not (has_abort (drop 1 g)) && nat_lt 7 (length g) then Some (dropped Abort) else None

-- What the latest bit of a stream brings: at most one event.
abbrev pub heard_at : ℕ → List Bool → Option Event
heard_at room [] = None
heard_at room (b ∷ past) =
    if ends_flag (b ∷ past) then option_and_then (closed_by_flag room) (since_flag past)
    else option_and_then (λ g. given_up (b ∷ g)) (since_flag past)

-- What was heard up to a place, in order of time.
abbrev pub heard_until : ℕ → List Bool → List Event
heard_until room [] = []
heard_until room (b ∷ past) = heard_until room past ++ option_to_list (heard_at room (b ∷ past))

-- The longest frame, its check included, that a receiver keeps whole: address, control and an information
-- field of `n201` octets, and the check.
abbrev pub room_for : ℕ → ℕ
room_for n201 = n201 + 6

-- What is heard in the octets of a line, by a receiver for information fields of `n201` octets.
abbrev pub heard_in : ℕ → List ℕ → List Event
heard_in n201 octets = heard_until (room_for n201) (reverse (bits octets))
