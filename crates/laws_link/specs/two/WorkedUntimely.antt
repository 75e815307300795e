-- A worked value of what T200 must not do: it expires while an enquiry or its answer is still on the way. No frame is
-- lost, and contents are delivered twice.
use Rattle.std.specs.Prelude.{◌≡◌, false, List, [], ◌∷◌, ◌++◌, refl}
use Rattle.laws_link.specs.WorkedWords.{seq, distance_of, named, supervisory_of, unnumbered_of, control_of, header_of, reading, AwaitingEstablishment, Established, T200, T203, Data, after_all, requests, expires, sends, receives, StepAt, at_near, at_far, doing_all}
use Rattle.laws_link.specs.two.WorkedEnds.{both}

-- Near accepts contents; T203 and then T200 expire before a frame has left, so that two enquiries wait; both go.
abbrev two_enquiries : List StepAt
two_enquiries = at_near (requests (Data (7 ∷ [])) false) ∷ at_near (expires T203) ∷ at_near (expires T200) ∷ at_near sends ∷ at_near sends ∷ []

-- Far answers the first; near is in state 7 again, and sends I-frame 0; T200 expires, and a third enquiry waits.
abbrev first_answer : List StepAt
first_answer = two_enquiries ++ at_far receives ∷ at_far sends ∷ at_near receives ∷ at_near sends ∷ at_near (expires T200) ∷ []

-- Far answers the second enquiry, before it has the I-frame. Near takes that for the answer to its third, and its V(S)
-- goes back to 0.
abbrev second_answer : List StepAt
second_answer = first_answer ++ at_far receives ∷ at_far sends ∷ at_near receives ∷ []

gone_back : (doing_all second_answer both).near.link.s ≡ 0
unfolding seq distance_of named reading header_of control_of unnumbered_of supervisory_of after_all doing_all
gone_back = refl

-- Now far has the I-frame, delivers it and acknowledges. For near N(R)=1 names nothing that it has sent: error J, SABME.
abbrev delivered_once : List StepAt
delivered_once = second_answer ++ at_far receives ∷ at_far sends ∷ at_near receives ∷ []

once : (doing_all delivered_once both).far.delivered ≡ (7 ∷ []) ∷ []
unfolding seq distance_of named reading header_of control_of unnumbered_of supervisory_of after_all doing_all
once = refl

lost_count : (doing_all delivered_once both).near.link.state ≡ AwaitingEstablishment
unfolding seq distance_of named reading header_of control_of unnumbered_of supervisory_of after_all doing_all
lost_count = refl

-- The third enquiry goes, and SABME; UA comes back, and the contents, which near kept, go again: far delivers them a
-- second time.
abbrev delivered_twice : List StepAt
delivered_twice =
    delivered_once ++ at_near sends ∷ at_near sends ∷ at_far receives ∷ at_far receives ∷ at_far sends ∷ at_far sends ∷ at_near receives ∷ at_near receives
    ∷ at_near sends ∷ at_far receives ∷ []

twice : (doing_all delivered_twice both).far.delivered ≡ (7 ∷ []) ∷ (7 ∷ []) ∷ []
unfolding seq distance_of named reading header_of control_of unnumbered_of supervisory_of after_all doing_all
twice = refl

both_up_again : (doing_all delivered_twice both).near.link.state ≡ Established
unfolding seq distance_of named reading header_of control_of unnumbered_of supervisory_of after_all doing_all
both_up_again = refl
