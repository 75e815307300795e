-- Worked values: a poll, and what is before its answer. With them the laws of a poll say something: they are what those ask of
-- a line.
use Rattle.std.specs.Prelude.{◌≡◌, ℕ, true, List, [], ◌∷◌, length, Some, None, refl}
use Rattle.laws_line.specs.WorkedWords.{ReceiveReady, Ua, Call, Parts, exchanged, read_by, reading, header_of, control_of, unnumbered_of, supervisory_of, seq, distance_of, named, Link, is_multiple_frame, response, Config, hears, request, first_fault, sapi_fault, Line, fresh_line, place_in, tei_at, link_in, after, Assign, frames_to_go, most_frames, most_frames_before}
use Rattle.model_bits.specs.Stream as stream
use Rattle.model_teis.specs.network.Events as teis
use Rattle.model_line.specs.Usual.{least}

-- One terminal, and room for two control frames.
abbrev pub small : Config
small = record least { lines = 2; slots = 2; n200 = 1 }

in_range : first_fault small ≡ None
unfolding sapi_fault
in_range = refl

-- TEI 64 comes on the line, and its SABME, and then RR with P=1, of the call control link.
abbrev pub sabme_octets : List ℕ
sabme_octets = 0x00 ∷ 0x81 ∷ 0x7F ∷ []

abbrev pub poll_octets : List ℕ
poll_octets = 0x00 ∷ 0x81 ∷ 0x01 ∷ 0x01 ∷ []

abbrev pub poll : Parts
poll = record { address = record { sapi = 0; command = true; tei = 64 }; control = ReceiveReady (seq 0) true; info = [] }

abbrev pub before_poll : Line
before_poll = after small (hears (stream.frame sabme_octets)) (after small (request (Assign 64)) (fresh_line small))

abbrev pub call_link : Line → Link
call_link l = link_in l Call 0

-- The poll is for a TEI at place 0,
pub on_line : place_in before_poll 64 ≡ Some 0
unfolding after exchanged read_by reading header_of control_of unnumbered_of supervisory_of teis.course teis.refusal seq distance_of named
on_line = refl

-- in state 7, with a valid N(R), and with room for one control frame beside the UA that waits.
pub is_up : is_multiple_frame (call_link before_poll).state ≡ true
unfolding after exchanged read_by reading header_of control_of unnumbered_of supervisory_of teis.course teis.refusal seq distance_of named
is_up = refl

pub is_valid : named (call_link before_poll).a (call_link before_poll).s (seq 0) ≡ Some 0
unfolding after exchanged read_by reading header_of control_of unnumbered_of supervisory_of teis.course teis.refusal seq distance_of named
is_valid = refl

pub one_waits : length (call_link before_poll).waiting ≡ 1
unfolding after exchanged read_by reading header_of control_of unnumbered_of supervisory_of teis.course teis.refusal seq distance_of named
one_waits = refl

-- Behind it two frames are to go, the UA and the answer, for which two calls are enough.
abbrev pub asked : Line
asked = after small (hears (stream.frame poll_octets)) before_poll

pub two_to_go : frames_to_go small asked ≡ 2
unfolding after exchanged read_by reading header_of control_of unnumbered_of supervisory_of teis.course teis.refusal seq distance_of named
two_to_go = refl

-- They wait in that order.
pub both_wait : (call_link asked).waiting ≡ response (Ua true) ∷ response (ReceiveReady (seq 0) true) ∷ []
unfolding after exchanged read_by reading header_of control_of unnumbered_of supervisory_of teis.course teis.refusal seq distance_of named
both_wait = refl

pub still_on_line : tei_at 0 asked ≡ Some 64
unfolding after exchanged read_by reading header_of control_of unnumbered_of supervisory_of teis.course teis.refusal seq distance_of named
still_on_line = refl

-- Whatever waits, nine calls are enough for a control frame, and thirteen for all that may go.
eight_before : most_frames_before small ≡ 8
eight_before = refl

thirteen_go : most_frames small ≡ 13
thirteen_go = refl
