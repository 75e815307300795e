-- Worked values: the loss of the third of seven frames between two links, and its recovery by REJ.
use Rattle.std.specs.Prelude.{◌≡◌, ℕ, false, List, [], ◌∷◌, ◌++◌, length, replicate, refl}
use Rattle.laws_link.specs.WorkedWords.{seq, distance_of, named, supervisory_of, unnumbered_of, control_of, header_of, reading, Data, after_all, Ends, requests, sends, receives, loses, StepAt, at_near, at_far, doing_all, usual_terms, up}

abbrev pub both : Ends
both = record {
  near = record { terms = usual_terms; link = up; way = []; delivered = [] };
  far = record { terms = usual_terms; link = up; way = []; delivered = [] };
}

abbrev asked : ℕ → StepAt
asked n = at_near (requests (Data (n ∷ [])) false)

-- seven contents are accepted and sent; two frames are received, the third is lost, and four are received
abbrev lossy : List StepAt
lossy =
    asked 1 ∷ asked 2 ∷ asked 3 ∷ asked 4 ∷ asked 5 ∷ asked 6 ∷ asked 7 ∷ replicate 7 (at_near sends)
    ++ at_far receives ∷ at_far receives ∷ at_near loses ∷ replicate 4 (at_far receives)

lost_third : (doing_all lossy both).far.delivered ≡ (1 ∷ []) ∷ (2 ∷ []) ∷ []
unfolding seq distance_of named reading header_of control_of unnumbered_of supervisory_of after_all doing_all
lost_third = refl

-- then REJ comes back, and five frames go again
abbrev pub mended : List StepAt
mended = lossy ++ at_far sends ∷ at_near receives ∷ replicate 7 (at_near sends) ++ replicate 5 (at_far receives)

sent_again : length (doing_all (lossy ++ at_far sends ∷ at_near receives ∷ replicate 7 (at_near sends)) both).near.way ≡ 5
unfolding seq distance_of named reading header_of control_of unnumbered_of supervisory_of after_all doing_all
sent_again = refl

mended_all : (doing_all mended both).far.delivered
    ≡ (1 ∷ []) ∷ (2 ∷ []) ∷ (3 ∷ []) ∷ (4 ∷ []) ∷ (5 ∷ []) ∷ (6 ∷ []) ∷ (7 ∷ []) ∷ []
unfolding seq distance_of named reading header_of control_of unnumbered_of supervisory_of after_all doing_all
mended_all = refl

acknowledged : (doing_all (mended ++ at_far sends ∷ at_near receives ∷ []) both).near.link.a ≡ 7
unfolding seq distance_of named reading header_of control_of unnumbered_of supervisory_of after_all doing_all
acknowledged = refl
