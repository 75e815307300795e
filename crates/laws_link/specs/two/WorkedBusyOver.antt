-- Worked values: what was kept while an end was busy itself arrives once own busy is over.
use Rattle.std.specs.Prelude.{◌≡◌, false, [], ◌∷◌, refl}
use Rattle.laws_link.specs.WorkedWords.{seq, distance_of, named, supervisory_of, unnumbered_of, control_of, header_of, reading, SetBusy, after_all, Ends, requests, sends, receives, at_near, at_far, doing_all, rounds, with_t200_expired, with_near_told, with_far_told, with_far_untold}
use Rattle.laws_link.specs.two.WorkedEnds.{both}
use Rattle.laws_link.specs.two.WorkedRounds.{near_asked, far_asked}
use Rattle.laws_link.specs.two.WorkedOwnBusy.{near_dropped, far_dropped, far_busy_lost}

-- Near is busy itself, far knows it, and each has a content unsent. RR tells that it is over: two rounds are enough, and one is
-- not.
abbrev pub kept : Ends
kept = doing_all (at_near (requests SetBusy false) ∷ at_near sends ∷ at_far receives ∷ far_asked 4 ∷ near_asked 1 ∷ []) both

taken_by_near : (rounds 2 (with_near_told kept)).near.delivered ≡ (4 ∷ []) ∷ []
unfolding seq distance_of named reading header_of control_of unnumbered_of supervisory_of after_all doing_all rounds
taken_by_near = refl

acknowledged : (rounds 2 (with_near_told kept)).far.link.a ≡ 1
unfolding seq distance_of named reading header_of control_of unnumbered_of supervisory_of after_all doing_all rounds
acknowledged = refl

not_in_one : (rounds 1 (with_near_told kept)).far.link.a ≡ 0
unfolding seq distance_of named reading header_of control_of unnumbered_of supervisory_of after_all doing_all rounds
not_in_one = refl

-- Near has dropped a content of far, which had not heard of it: that goes again after T200, four rounds later.
dropped_then_taken : (rounds 4 (with_t200_expired (with_near_told near_dropped))).near.delivered ≡ (4 ∷ []) ∷ []
unfolding seq distance_of named reading header_of control_of unnumbered_of supervisory_of after_all doing_all rounds
dropped_then_taken = refl

-- Without T200 it never goes again.
waits_for_t200 : (rounds 4 (with_near_told near_dropped)).near.delivered ≡ []
unfolding seq distance_of named reading header_of control_of unnumbered_of supervisory_of after_all doing_all rounds
waits_for_t200 = refl

-- So it is with the ends exchanged, and where RR is lost.
untold_then_taken : (rounds 4 (with_t200_expired (with_far_untold far_dropped))).far.delivered ≡ (1 ∷ []) ∷ []
unfolding seq distance_of named reading header_of control_of unnumbered_of supervisory_of after_all doing_all rounds
untold_then_taken = refl

-- A content was lost each way, and far was busy itself: with four rounds its own is acknowledged, and with three it is not.
not_in_three : (rounds 3 (with_t200_expired (with_far_told far_busy_lost))).far.link.a ≡ 0
unfolding seq distance_of named reading header_of control_of unnumbered_of supervisory_of after_all doing_all rounds
not_in_three = refl

in_four : (rounds 4 (with_t200_expired (with_far_told far_busy_lost))).far.link.a ≡ 1
unfolding seq distance_of named reading header_of control_of unnumbered_of supervisory_of after_all doing_all rounds
in_four = refl
