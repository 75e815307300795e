-- Worked values: what calls for the next frame alone come to.
use Rattle.std.specs.Prelude.{◌≡◌, [], ◌∷◌, length, refl}
use Rattle.laws_line.specs.WorkedWords.{exchanged, read_by, reading, header_of, control_of, unnumbered_of, supervisory_of, seq, distance_of, named, Line, fresh_line, link_at, of_request, Assign, frames_to_go, way_round, frames_before, most_frames, most_frames_before}
use Rattle.model_teis.specs.network.Events as teis
use Rattle.laws_line.specs.Worked.{usual, heard}

-- At most 200 frames are to go on a line, for which as many calls are enough.
most_wait : most_frames usual ≡ 200
most_wait = refl

-- At most 71 frames go before a control frame that waits. So 72 calls are enough for the answer to a poll.
most_first : most_frames_before usual ≡ 71
most_first = refl

-- Link 3 of 16, where the turn is at link 3, at link 5, and behind the last.
at_turn : way_round 16 3 3 ∷ way_round 16 5 3 ∷ way_round 16 16 3 ∷ [] ≡ 0 ∷ 14 ∷ 3 ∷ []
at_turn = refl

-- The UA of the call link of TEI 64 waits, and then the answer to an RR with P=1.
abbrev polled : Line
polled = heard (0x00 ∷ 0x81 ∷ 0x01 ∷ 0x01 ∷ []) (heard (0x00 ∷ 0x81 ∷ 0x7F ∷ []) (of_request usual (Assign 64) (fresh_line usual)).line)

two_wait : length (link_at 0 polled).waiting ≡ 2
unfolding exchanged read_by reading header_of control_of unnumbered_of supervisory_of teis.course teis.refusal seq distance_of named
two_wait = refl

-- Two frames are to go; before the answer at most the UA, and one of each other link.
to_go : frames_to_go usual polled ≡ 2
unfolding exchanged read_by reading header_of control_of unnumbered_of supervisory_of teis.course teis.refusal seq distance_of named
to_go = refl

frames_first : frames_before usual polled 0 1 ≡ 16
unfolding exchanged read_by reading header_of control_of unnumbered_of supervisory_of teis.course teis.refusal seq distance_of named
frames_first = refl
