-- Worked values: I-frames out of sequence, and REJ.
use Rattle.std.specs.Prelude.{◌≡◌, ℕ, ◌*◌, false, List, [], ◌∷◌, refl}
use Rattle.laws_link.specs.WorkedWords.{seq, distance_of, named, Reject, supervisory_of, unnumbered_of, control_of, header_of, reading, ControlFrame, Event, response, after_all, usual_terms, frame_comes, up}

abbrev waits_after : List Event → List ControlFrame
waits_after es = (after_all usual_terms es up).waiting

-- An I-frame with this N(S), and P=0.
abbrev information : ℕ → Event
information ns = frame_comes (0x00 ∷ 0x81 ∷ (2 * ns) ∷ 0x00 ∷ 0x41 ∷ [])

-- The first I-frame out of sequence is answered by REJ, the second is not.
first_gap : waits_after (information 1 ∷ []) ≡ response (Reject (seq 0) false) ∷ []
unfolding seq distance_of named reading header_of control_of unnumbered_of supervisory_of after_all
first_gap = refl

second_gap : waits_after (information 1 ∷ information 2 ∷ []) ≡ response (Reject (seq 0) false) ∷ []
unfolding seq distance_of named reading header_of control_of unnumbered_of supervisory_of after_all
second_gap = refl

-- Once one came in sequence the next gap is told again.
told_again : waits_after (information 1 ∷ information 0 ∷ information 3 ∷ []) ≡ response (Reject (seq 0) false) ∷ response (Reject (seq 1) false) ∷ []
unfolding seq distance_of named reading header_of control_of unnumbered_of supervisory_of after_all
told_again = refl
