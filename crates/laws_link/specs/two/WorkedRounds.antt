-- Worked values: seven contents one way and two the other arrive, after no loss and after the loss of every frame.
use Rattle.std.specs.Prelude.{◌≡◌, ℕ, false, List, [], ◌∷◌, ◌++◌, length, replicate, refl}
use Rattle.laws_link.specs.WorkedWords.{seq, distance_of, named, supervisory_of, unnumbered_of, control_of, header_of, reading, Data, after_all, Ends, requests, sends, receives, loses, StepAt, at_near, at_far, doing_all, rounds, with_t200_expired}
use Rattle.laws_link.specs.two.WorkedEnds.{both}

abbrev pub near_asked : ℕ → StepAt
near_asked n = at_near (requests (Data (n ∷ [])) false)

abbrev pub far_asked : ℕ → StepAt
far_asked n = at_far (requests (Data (n ∷ [])) false)

abbrev pub octets : List (List ℕ)
octets = (1 ∷ []) ∷ (2 ∷ []) ∷ (3 ∷ []) ∷ []

-- Three contents at near, two at far, none sent: four rounds are enough.
abbrev pub asking : List StepAt
asking = near_asked 1 ∷ near_asked 2 ∷ near_asked 3 ∷ far_asked 4 ∷ far_asked 5 ∷ []

abbrev pub asked : Ends
asked = doing_all asking both

arrived : (rounds 4 asked).far.delivered ≡ octets
unfolding seq distance_of named reading header_of control_of unnumbered_of supervisory_of after_all doing_all rounds
arrived = refl

acknowledged : (rounds 4 asked).near.link.a ≡ 3
unfolding seq distance_of named reading header_of control_of unnumbered_of supervisory_of after_all doing_all rounds
acknowledged = refl

-- One content unsent, and the window full: one round is not enough, and two are.
abbrev window_full : Ends
window_full =
    doing_all (near_asked 1 ∷ near_asked 2 ∷ near_asked 3 ∷ near_asked 4 ∷ near_asked 5 ∷ near_asked 6 ∷ near_asked 7 ∷ near_asked 8
    ∷ replicate 7 (at_near sends) ++ replicate 7 (at_far receives)) both

one_round : length (rounds 1 window_full).far.delivered ≡ 7
unfolding seq distance_of named reading header_of control_of unnumbered_of supervisory_of after_all doing_all rounds
one_round = refl

two_rounds : length (rounds 2 window_full).far.delivered ≡ 8
unfolding seq distance_of named reading header_of control_of unnumbered_of supervisory_of after_all doing_all rounds
two_rounds = refl

-- All three of near's frames are lost, and one of far's. T200 expires at both; three and three rounds later all is there.
abbrev pub losing : List StepAt
losing = asking ++ replicate 3 (at_near sends) ++ replicate 3 (at_near loses) ++ at_far sends ∷ at_far loses ∷ []

abbrev pub cut_off : Ends
cut_off = doing_all losing both

recovered_at_far : (rounds 6 (with_t200_expired cut_off)).far.delivered ≡ octets
unfolding seq distance_of named reading header_of control_of unnumbered_of supervisory_of after_all doing_all rounds
recovered_at_far = refl

recovered_at_near : (rounds 6 (with_t200_expired cut_off)).near.delivered ≡ (4 ∷ []) ∷ (5 ∷ []) ∷ []
unfolding seq distance_of named reading header_of control_of unnumbered_of supervisory_of after_all doing_all rounds
recovered_at_near = refl

-- A content lost each way: with four rounds far's is acknowledged, and with three it is not.
abbrev both_lost : Ends
both_lost = doing_all (near_asked 1 ∷ far_asked 4 ∷ at_near sends ∷ at_near loses ∷ at_far sends ∷ at_far loses ∷ []) both

not_in_three : (rounds 3 (with_t200_expired both_lost)).far.link.a ≡ 0
unfolding seq distance_of named reading header_of control_of unnumbered_of supervisory_of after_all doing_all rounds
not_in_three = refl

in_four : (rounds 4 (with_t200_expired both_lost)).far.link.a ≡ 1
unfolding seq distance_of named reading header_of control_of unnumbered_of supervisory_of after_all doing_all rounds
in_four = refl
