-- Worked values: what is counted. Two contents go, and go again for the terminal's REJ; T200 expires; an I-frame is missed.
use Rattle.std.specs.Prelude.{◌≡◌, List, [], ◌∷◌, refl}
use Rattle.laws_link.specs.WorkedWords.{seq, distance_of, named, supervisory_of, unnumbered_of, control_of, header_of, reading, Data, Event, expired, offer, fresh, after_all, T200, frame_comes, ask, usual_terms, sabme}
use Rattle.model_link.specs.declared.counts.LinkCounts.{LinkCounts}
unfoldable use Rattle.laws_link.specs.Counting.{tally}
use Rattle.laws_link.specs.Counting.{nothing_yet, at_most}

abbrev happened : List Event
happened =
    sabme ∷ offer ∷ ask (Data (0x41 ∷ [])) ∷ ask (Data (0x42 ∷ [])) ∷ offer ∷ offer ∷ frame_comes (0x02 ∷ 0x81 ∷ 0x09 ∷ 0x00 ∷ []) ∷ offer ∷ offer
    ∷ expired T200 ∷ frame_comes (0x00 ∷ 0x81 ∷ 0x02 ∷ 0x00 ∷ 0x41 ∷ []) ∷ offer ∷ offer ∷ []

abbrev each_is : LinkCounts
each_is = record { sent_again = 2; t200_expired = 1; rejects_sent = 1; rejects_received = 1; established = 1 }

tallied : at_most (tally usual_terms happened fresh nothing_yet) ≡ each_is
unfolding seq distance_of named reading header_of control_of unnumbered_of supervisory_of after_all tally
tallied = refl

counted : (after_all usual_terms happened fresh).counts ≡ each_is
unfolding seq distance_of named reading header_of control_of unnumbered_of supervisory_of after_all
counted = refl
