-- The premises on two ends are met: two links that the terminal established, through the loss of a frame and its
-- recovery.
use Rattle.laws_link.proofs.Vocabulary.{◌≡◌, Bool, true, ◌&&◌, List, [], ◌∷◌, refl, arith, and_parts, seq, distance_of, named, supervisory_of, unnumbered_of, control_of, header_of, reading, fresh, is_multiple_frame, offer, after_all, IsInRange, Ends, StepAt, doing, Begins, StayUp, sound-fresh, sound-all, usual_terms, sabme, both, mended}

in-range : IsInRange usual_terms
in-range = search arith

pub begins : Begins both.near
unfolding seq distance_of named reading header_of control_of unnumbered_of supervisory_of after_all
begins = search (in-range, sound-all usual_terms in-range (sabme ∷ offer ∷ []) fresh (sound-fresh usual_terms in-range))

are_up : Ends → Bool
are_up e = is_multiple_frame e.near.link.state && is_multiple_frame e.far.link.state

stay_up : List StepAt → Ends → Bool
stay_up [] e = true
stay_up (d ∷ ds) e = are_up (doing d e) && stay_up ds (doing d e)

by-test : (ds : List StepAt) (e : Ends) → stay_up ds e ≡ true → StayUp ds e
unfolding StayUp stay_up are_up
by-test [] e h = tt
by-test (d ∷ ds) e h = grind (arith, and_parts, are_up, stay_up, (by-test ds (doing d e)))

pub stays : StayUp mended both
unfolding seq distance_of named reading header_of control_of unnumbered_of supervisory_of after_all stay_up are_up
stays = by-test mended both refl
