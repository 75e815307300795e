-- Worked values: what calls for the next frame take.
use Rattle.std.specs.Prelude.{◌≡◌, ℕ, zero, suc, List, [], ◌∷◌, Option, Some, None, option_map, refl}
use Rattle.laws_line.specs.WorkedWords.{Call, Packet, Order, Start, Stop, T200, T203, exchanged, read_by, reading, header_of, control_of, unnumbered_of, seq, next, orders_in, Line, fresh_line, of_request, after, answer, Taken, taken, Request, Assign, Data, Unit, Check}
use Rattle.model_teis.specs.network.Events as teis
use Rattle.laws_line.specs.Worked.{usual, both_up, heard}

abbrev pub asked : Request → Line → Line
asked r l = (of_request usual r l).line

abbrev frame_in : Taken → List ℕ
frame_in t = t.frame

abbrev next_frame : Line → Option (List ℕ)
next_frame l = option_map frame_in (taken usual l)

-- The line after so many calls for the next frame.
unfoldable pub taken_from : ℕ → Line → Line
taken_from zero l = l
taken_from (suc n) l = taken_from n (after usual next l)

-- A call takes the message that waits, else the unit data, else a frame of a link;
abbrev pub with_64 : Line
with_64 = asked (Assign 64) (fresh_line usual)

message_taken : next_frame (asked (Check 64) (asked (Unit Call 127 (0xAB ∷ [])) with_64))
    ≡ Some (0xFE ∷ 0xFF ∷ 0x03 ∷ 0x0F ∷ 0x00 ∷ 0x00 ∷ 0x04 ∷ 0x81 ∷ [])
unfolding teis.course teis.refusal
message_taken = refl

unit_taken : next_frame (asked (Unit Packet 127 (0xAB ∷ [])) (heard (0x00 ∷ 0x81 ∷ 0x7F ∷ []) with_64)) ≡ Some (0x42 ∷ 0xFF ∷ 0x03 ∷ 0xAB ∷ [])
unfolding exchanged read_by reading header_of control_of unnumbered_of teis.course teis.refusal
unit_taken = refl

ua_taken : next_frame (heard (0x00 ∷ 0x81 ∷ 0x7F ∷ []) with_64) ≡ Some (0x00 ∷ 0x81 ∷ 0x73 ∷ [])
unfolding exchanged read_by reading header_of control_of unnumbered_of teis.course teis.refusal
ua_taken = refl

-- and where nothing waits none.
none_taken : next_frame with_64 ≡ None
unfolding teis.course teis.refusal
none_taken = refl

-- UA of the packet link follows behind that of the call control link.
packet_follows : next_frame (taken_from 1 both_up) ≡ Some (0x40 ∷ 0x81 ∷ 0x73 ∷ [])
unfolding after exchanged read_by reading header_of control_of unnumbered_of teis.course teis.refusal taken_from
packet_follows = refl

-- Data that is accepted follows as I-frame 0 of the call control link.
abbrev with_contents : Line
with_contents = asked (Data Call 64 (0x41 ∷ [])) (taken_from 2 both_up)

contents_follow : next_frame with_contents ≡ Some (0x02 ∷ 0x81 ∷ 0x00 ∷ 0x00 ∷ 0x41 ∷ [])
unfolding after seq exchanged read_by reading header_of control_of unnumbered_of teis.course teis.refusal taken_from
contents_follow = refl

-- The call that takes it starts T200 of this link, and stops its T203; the next, which takes none, leaves T200 as it runs.
abbrev ordered : Line → List Order
ordered l = orders_in (answer usual next l)

t200_started : ordered with_contents ≡ Start (T200 Call 64) ∷ Stop (T203 Call 64) ∷ []
unfolding after answer seq exchanged read_by reading header_of control_of unnumbered_of teis.course teis.refusal taken_from
t200_started = refl

t200_left : ordered (taken_from 1 with_contents) ≡ []
unfolding after answer seq exchanged read_by reading header_of control_of unnumbered_of teis.course teis.refusal taken_from
t200_left = refl
