-- What has ended, against the octets that a deframer holds.
use Rattle.std.specs.Prelude.{ℕ, ◌≤◌, Bool, true, false, List, [], ◌∷◌, Option, Some, None, length, take, if◌then◌else◌}
use Rattle.model_bits.specs.Bits.{same_bits}
use Rattle.model_bits.specs.Stream.{Event, frame, overlong, dropped, judged}
use Rattle.model_bits.specs.declared.heard.Cause.TheVariants.{Ragged}
use Rattle.lapd_bits.specs.declared.ended.Ended.{Ended}
use Rattle.lapd_bits.specs.declared.ended.Ended.TheVariants.{Nothing, Dropped, Frame, Overlong}

-- how many octets of a frame have ended
abbrev pub frame_len : Ended → ℕ
frame_len Nothing = 0
frame_len (Dropped _) = 0
frame_len (Frame len) = len
frame_len Overlong = 0

-- a frame that has ended lies in room for `n` octets
abbrev pub FitsIn : ℕ → Ended → Type 0
FitsIn n ended = frame_len ended ≤ n

-- the event that has ended, or none: its octets lie in the deframer's
abbrev pub event_in : List ℕ → Ended → Option Event
event_in octets Nothing = None
event_in octets (Dropped cause) = Some (dropped cause)
event_in octets (Frame len) = Some (frame (take len octets))
event_in octets Overlong = Some (overlong (take 4 octets))

-- an event without its octets: how many they are, where it is a frame
abbrev pub without_octets : Option Event → Ended
without_octets None = Nothing
without_octets (Some (dropped cause)) = Dropped cause
without_octets (Some (frame octets)) = Frame (length octets)
without_octets (Some (overlong head)) = Overlong

-- a flag without its last bit
abbrev pub flag_front : List Bool
flag_front = false ∷ true ∷ true ∷ true ∷ true ∷ true ∷ true ∷ []

-- what a closing flag's last bit ends, after whole octets and fewer than eight bits over: these are the flag's
-- first seven where what it closes was octets
abbrev pub closing_event : ℕ → List ℕ → List Bool → Event
closing_event room whole over = if same_bits over flag_front then judged room whole else dropped Ragged
