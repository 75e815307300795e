-- The gap that is open at a place of a stream, the bits up to the place with the latest first: what one bit more makes
-- of it and ends, and how many of its octets are held (Q.921 clauses 2.2, 2.6 and 2.10).
use Rattle.std.specs.Prelude.{ℕ, suc, ◌+◌, ◌/◌, Bool, true, false, List, [], ◌∷◌, length, drop, reverse, min, Option, Some, None, option_map, option_and_then, nat_lt, if◌then◌else◌}
use Rattle.std.specs.Option.{option_map_or}
use Rattle.model_bits.specs.Bits.{bits}
use Rattle.model_bits.specs.Stuffing.{unstuffed}
use Rattle.model_bits.specs.Stream.{Event, dropped, since_flag, has_abort, gap_event, room_for}
use Rattle.model_bits.specs.declared.heard.Cause.TheVariants.{Abort}

-- The contiguous 1s up to a place, 7 for more. Before any 0 there is no flag to come, so they count as 7.
abbrev pub run_of : List Bool → ℕ
run_of [] = 7
run_of (false ∷ past) = 0
run_of (true ∷ past) = min 7 (run_of past + 1)

-- The gap that is open at a place: the bits since the latest flag, the latest first, where there was a flag
-- and no abort since.
abbrev pub open_gap : List Bool → Option (List Bool)
open_gap past = option_and_then (λ g. if has_abort g then None else Some g) (since_flag past)

-- Its bits with one more.
abbrev pub one_more : Bool → Option (List Bool) → Option (List Bool)
one_more b = option_map (λ g. b ∷ g)

-- What the seventh contiguous 1 ends, of the gap that was open (clause 2.10).
abbrev pub given_up_event : Option (List Bool) → Option Event
given_up_event None = None
given_up_event (Some g) = if nat_lt 7 (suc (length g)) then Some (dropped Abort) else None

-- What a flag's last bit ends, of the gap that was open (clause 2.2).
abbrev pub closed_event : ℕ → Option (List Bool) → Option Event
closed_event room None = None
closed_event room (Some g) = if nat_lt (length g) 8 then None else Some (gap_event room (reverse (drop 7 g)))

-- How many of a gap's octets are held: all, where there is room, and else the first four.
abbrev pub kept_count : ℕ → ℕ → ℕ
kept_count room n = if nat_lt room n then 4 else n

-- How many of a line's octets a deframer holds after them: the whole octets of the open gap, or the first
-- four where they are more than there is room for; none where no gap is open. The bits of a flag that has
-- begun are among the gap's until its last.
abbrev pub octets_held : ℕ → List ℕ → ℕ
octets_held n201 octets =
    option_map_or (λ g. kept_count (room_for n201) (length (unstuffed (reverse g)) / 8)) (open_gap (reverse (bits octets))) 0
