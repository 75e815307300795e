-- Worked values: a terminal that is busy, one that rejects, and deliveries.
use Rattle.std.specs.Prelude.{◌≡◌, true, false, List, [], ◌∷◌, refl}
use Rattle.laws_link.specs.WorkedWords.{seq, distance_of, named, Call, Order, Start, Stop, FrameT200 as T200, FrameT203 as T203, supervisory_of, unnumbered_of, control_of, header_of, reading, AwaitingEstablishment, Link, Data, offer, after, after_all, told, usual_terms, frame_comes, ask, up}

-- Three I-frames went, and REJ with N(R) 1 comes: V(S) is 1, and two go again.
abbrev rejected : Link
rejected = after_all usual_terms (ask (Data (1 ∷ [])) ∷ ask (Data (2 ∷ [])) ∷ ask (Data (3 ∷ [])) ∷ offer ∷ offer ∷ offer ∷ frame_comes (0x02 ∷ 0x81 ∷ 0x09 ∷ 0x02 ∷ []) ∷ []) up

rejected_from : rejected.s
    ≡ 1
unfolding seq distance_of named reading header_of control_of unnumbered_of supervisory_of after_all
rejected_from = refl

-- Contents are delivered, and their acknowledgement is owed;
delivered : (after usual_terms (frame_comes (0x00 ∷ 0x81 ∷ 0x00 ∷ 0x00 ∷ 0x41 ∷ [])) up).pending
    ≡ true
unfolding seq distance_of named reading header_of control_of unnumbered_of supervisory_of after_all
delivered = refl

-- but not where the I-frame's own N(R) is invalid.
delivered_last : (after usual_terms (frame_comes (0x00 ∷ 0x81 ∷ 0x00 ∷ 0x02 ∷ 0x41 ∷ [])) up).pending
    ≡ false
unfolding seq distance_of named reading header_of control_of unnumbered_of supervisory_of after_all
delivered_last = refl

delivered_last_state : (after usual_terms (frame_comes (0x00 ∷ 0x81 ∷ 0x00 ∷ 0x02 ∷ 0x41 ∷ [])) up).state
    ≡ AwaitingEstablishment
unfolding seq distance_of named reading header_of control_of unnumbered_of supervisory_of after_all
delivered_last_state = refl

-- Two contents are accepted: the first I-frame starts T200, and stops T203; the second leaves T200 as it runs.
abbrev ordered : Link → List Order
ordered l = (told usual_terms offer l).orders

abbrev two_given : Link
two_given = after_all usual_terms (ask (Data (1 ∷ [])) ∷ ask (Data (2 ∷ [])) ∷ []) up

first_starts : ordered two_given
    ≡ Start (T200 Call 64) ∷ Stop (T203 Call 64) ∷ []
unfolding seq distance_of named reading header_of control_of unnumbered_of supervisory_of after_all
first_starts = refl

second_leaves : ordered (after usual_terms offer two_given)
    ≡ []
unfolding seq distance_of named reading header_of control_of unnumbered_of supervisory_of after_all
second_leaves = refl
