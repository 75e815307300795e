-- Worked values: contents that are accepted, sent, acknowledged and lost.
use Rattle.std.specs.Prelude.{◌≡◌, true, List, [], ◌∷◌, replicate, Some, None, refl}
use Rattle.laws_link.specs.WorkedWords.{seq, distance_of, named, supervisory_of, unnumbered_of, control_of, header_of, reading, queue_of, Event, Data, Release, offer, after_all, usual_terms, frame_comes, ask, sabme, up, empties, share, i_frames, unit_due}

-- Three contents are accepted, two I-frames are given, and an RR with N(R) 1 comes.
abbrev three : List Event
three = ask (Data (1 ∷ [])) ∷ ask (Data (2 ∷ [])) ∷ ask (Data (3 ∷ [])) ∷ offer ∷ offer ∷ frame_comes (0x02 ∷ 0x81 ∷ 0x01 ∷ 0x02 ∷ []) ∷ []

three_kept : queue_of (after_all usual_terms three up)
    ≡ (2 ∷ []) ∷ (3 ∷ []) ∷ []
unfolding seq distance_of named reading header_of control_of unnumbered_of supervisory_of after_all
three_kept = refl

three_sent : i_frames usual_terms offer (after_all usual_terms three up)
    ≡ 1
unfolding seq distance_of named reading header_of control_of unnumbered_of supervisory_of after_all
three_sent = refl

-- A SABME comes while contents are outstanding: all of them go, and an establish indication is told.
sabme_empties : share usual_terms sabme (after_all usual_terms three up)
    ≡ record { restarts = true; empties = true; accepted = []; acknowledged = 0 }
unfolding seq distance_of named reading header_of control_of unnumbered_of supervisory_of after_all
sabme_empties = refl

-- A release that is not refused empties.
release_empties : empties usual_terms (ask Release) (after_all usual_terms three up)
    ≡ true
unfolding seq distance_of named reading header_of control_of unnumbered_of supervisory_of after_all
release_empties = refl

-- Unit data is told up to N201 octets.
unit_told : unit_due usual_terms (frame_comes (0x00 ∷ 0x81 ∷ 0x03 ∷ 0xCB ∷ []))
    ≡ Some (0xCB ∷ [])
unfolding seq reading header_of control_of unnumbered_of supervisory_of
unit_told = refl

unit_too_long : unit_due usual_terms (frame_comes (0x00 ∷ 0x81 ∷ 0x03 ∷ replicate 261 0x55))
    ≡ None
unfolding seq reading header_of control_of unnumbered_of supervisory_of
unit_too_long = refl
