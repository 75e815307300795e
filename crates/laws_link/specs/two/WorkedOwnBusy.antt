-- Worked values: what an end that is busy itself gives arrives, and what the other gives waits.
use Rattle.std.specs.Prelude.{◌≡◌, true, false, List, [], ◌∷◌, ◌++◌, refl}
use Rattle.laws_link.specs.WorkedWords.{seq, distance_of, named, supervisory_of, unnumbered_of, control_of, header_of, reading, T200, SetBusy, ClearBusy, after_all, Ends, requests, expires, sends, receives, loses, StepAt, at_near, at_far, doing_all, rounds, with_t200_expired, with_far_busy}
use Rattle.laws_link.specs.two.WorkedEnds.{both}
use Rattle.laws_link.specs.two.WorkedRounds.{near_asked, far_asked, octets, asking, asked}

-- Own busy begins at far where two contents are unsent there, and three at near: four rounds are enough, and three are not.
heard : (rounds 4 (with_far_busy asked)).near.delivered ≡ (4 ∷ []) ∷ (5 ∷ []) ∷ []
unfolding seq distance_of named reading header_of control_of unnumbered_of supervisory_of after_all doing_all rounds
heard = refl

acknowledged : (rounds 4 (with_far_busy asked)).far.link.a ≡ 2
unfolding seq distance_of named reading header_of control_of unnumbered_of supervisory_of after_all doing_all rounds
acknowledged = refl

acknowledged_in_three : (rounds 3 (with_far_busy asked)).far.link.a ≡ 1
unfolding seq distance_of named reading header_of control_of unnumbered_of supervisory_of after_all doing_all rounds
acknowledged_in_three = refl

nothing_taken : (rounds 4 (with_far_busy asked)).far.delivered ≡ []
unfolding seq distance_of named reading header_of control_of unnumbered_of supervisory_of after_all doing_all rounds
nothing_taken = refl

taken_for_busy : (rounds 4 (with_far_busy asked)).near.link.peer_busy ≡ true
unfolding seq distance_of named reading header_of control_of unnumbered_of supervisory_of after_all doing_all rounds
taken_for_busy = refl

kept_by_near : (rounds 4 (with_far_busy asked)).near.link.contents ≡ octets
unfolding seq distance_of named reading header_of control_of unnumbered_of supervisory_of after_all doing_all rounds
kept_by_near = refl

-- One content is unsent at the end that is busy itself; the other does not know of it, and has sent one, which was dropped. Two
-- rounds are enough, and what was dropped is kept.
abbrev pub near_dropped : Ends
near_dropped = doing_all (at_near (requests SetBusy false) ∷ at_near sends ∷ at_near loses ∷ far_asked 4 ∷ at_far sends ∷ at_near receives ∷ near_asked 1 ∷ []) both

near_heard : (rounds 2 near_dropped).far.delivered ≡ (1 ∷ []) ∷ []
unfolding seq distance_of named reading header_of control_of unnumbered_of supervisory_of after_all doing_all rounds
near_heard = refl

near_acknowledged : (rounds 2 near_dropped).near.link.a ≡ 1
unfolding seq distance_of named reading header_of control_of unnumbered_of supervisory_of after_all doing_all rounds
near_acknowledged = refl

near_takes_nothing : (rounds 2 near_dropped).near.delivered ≡ []
unfolding seq distance_of named reading header_of control_of unnumbered_of supervisory_of after_all doing_all rounds
near_takes_nothing = refl

far_keeps : (rounds 2 near_dropped).far.link.contents ≡ (4 ∷ []) ∷ []
unfolding seq distance_of named reading header_of control_of unnumbered_of supervisory_of after_all doing_all rounds
far_keeps = refl

-- So it is where far is busy itself; one round is not enough then, as the acknowledgement goes in the second.
abbrev pub far_dropped : Ends
far_dropped = doing_all (at_far (requests SetBusy false) ∷ at_far sends ∷ at_far loses ∷ near_asked 1 ∷ at_near sends ∷ at_far receives ∷ far_asked 4 ∷ []) both

far_in_one : (rounds 1 far_dropped).far.link.a ≡ 0
unfolding seq distance_of named reading header_of control_of unnumbered_of supervisory_of after_all doing_all rounds
far_in_one = refl

far_acknowledged : (rounds 2 far_dropped).far.link.a ≡ 1
unfolding seq distance_of named reading header_of control_of unnumbered_of supervisory_of after_all doing_all rounds
far_acknowledged = refl

far_heard : (rounds 2 far_dropped).near.delivered ≡ (4 ∷ []) ∷ []
unfolding seq distance_of named reading header_of control_of unnumbered_of supervisory_of after_all doing_all rounds
far_heard = refl

near_keeps : (rounds 2 far_dropped).near.link.contents ≡ (1 ∷ []) ∷ []
unfolding seq distance_of named reading header_of control_of unnumbered_of supervisory_of after_all doing_all rounds
near_keeps = refl

-- The RNR that tells of it is lost, and all that both send then. T200 expires; six rounds later near's are there.
abbrev pub busy_losing : List StepAt
busy_losing =
    at_near (requests SetBusy false) ∷ at_near sends ∷ at_near loses ∷ asking ++ at_near sends ∷ at_near loses ∷ at_near sends ∷ at_near loses ∷ at_far sends ∷ at_far loses ∷ []

abbrev pub busy_cut_off : Ends
busy_cut_off = doing_all busy_losing both

far_unaware : busy_cut_off.far.link.peer_busy ≡ false
unfolding seq distance_of named reading header_of control_of unnumbered_of supervisory_of after_all doing_all rounds
far_unaware = refl

recovered_at_far : (rounds 6 (with_t200_expired busy_cut_off)).far.delivered ≡ octets
unfolding seq distance_of named reading header_of control_of unnumbered_of supervisory_of after_all doing_all rounds
recovered_at_far = refl

far_aware : (rounds 6 (with_t200_expired busy_cut_off)).far.link.peer_busy ≡ true
unfolding seq distance_of named reading header_of control_of unnumbered_of supervisory_of after_all doing_all rounds
far_aware = refl

-- A content lost each way, and the busy end is far: with four rounds its own is acknowledged, and with three it is not.
abbrev pub far_busy_lost : Ends
far_busy_lost =
    doing_all (at_far (requests SetBusy false) ∷ at_far sends ∷ at_far loses ∷ near_asked 1 ∷ far_asked 4 ∷ at_near sends ∷ at_near loses ∷ at_far sends ∷ at_far loses ∷ []) both

not_in_three : (rounds 3 (with_t200_expired far_busy_lost)).far.link.a ≡ 0
unfolding seq distance_of named reading header_of control_of unnumbered_of supervisory_of after_all doing_all rounds
not_in_three = refl

in_four : (rounds 4 (with_t200_expired far_busy_lost)).far.link.a ≡ 1
unfolding seq distance_of named reading header_of control_of unnumbered_of supervisory_of after_all doing_all rounds
in_four = refl

-- Where nothing is outstanding the other need not learn of it: RNR is lost, T200 runs at neither end, and far sends an
-- I-frame, which near drops. Then T200 runs at far, and expires; the answer to its enquiry tells.
abbrev unaware : List StepAt
unaware = at_near (requests SetBusy false) ∷ at_near sends ∷ at_near loses ∷ far_asked 4 ∷ at_far sends ∷ at_near receives ∷ []

still_unaware : (rounds 3 (doing_all unaware both)).far.link.peer_busy ≡ false
unfolding seq distance_of named reading header_of control_of unnumbered_of supervisory_of after_all doing_all rounds
still_unaware = refl

aware_by_t200 : (rounds 2 (with_t200_expired (doing_all unaware both))).far.link.peer_busy ≡ true
unfolding seq distance_of named reading header_of control_of unnumbered_of supervisory_of after_all doing_all rounds
aware_by_t200 = refl

-- Own busy ends: RR tells far, and what near dropped goes again at far's next enquiry.
abbrev over : List StepAt
over = unaware ++ at_far (expires T200) ∷ at_far sends ∷ at_near receives ∷ at_near sends ∷ at_far receives ∷ at_near (requests ClearBusy false) ∷ []

taken_then : (rounds 2 (doing_all over both)).near.delivered ≡ (4 ∷ []) ∷ []
unfolding seq distance_of named reading header_of control_of unnumbered_of supervisory_of after_all doing_all rounds
taken_then = refl
