-- Worked values: the numbers of a link begin anew, and it is told.
use Rattle.std.specs.Prelude.{[], ◌≡◌, true, false, ◌∷◌, refl}
use Rattle.laws_link.specs.WorkedWords.{seq, distance_of, named, supervisory_of, unnumbered_of, control_of, header_of, reading, restarts, Link, fresh, Event, Data, Establish, offer, cleared, after_all, usual_terms, frame_comes, ask, sabme, up}

abbrev ua : Event
ua = frame_comes (0x02 ∷ 0x81 ∷ 0x73 ∷ [])

-- SABME, in state 4 by an indication, and in state 7 by error F;
sabme_in_4 : restarts usual_terms sabme fresh ≡ true
unfolding seq distance_of named reading header_of control_of unnumbered_of supervisory_of after_all
sabme_in_4 = refl

sabme_in_7 : restarts usual_terms sabme up ≡ true
unfolding seq distance_of named reading header_of control_of unnumbered_of supervisory_of after_all
sabme_in_7 = refl

-- UA that answers an establishment which layer 3 asked for, by a confirm;
abbrev asked : Link
asked = after_all usual_terms (ask Establish ∷ offer ∷ []) fresh

ua_asked : restarts usual_terms ua asked ≡ true
unfolding seq distance_of named reading header_of control_of unnumbered_of supervisory_of after_all
ua_asked = refl

-- and without a note UA that answers one which this side began itself, after DM with F=0, and the end of the TEI.
abbrev begun_again : Link
begun_again = after_all usual_terms (frame_comes (0x02 ∷ 0x81 ∷ 0x0F ∷ []) ∷ offer ∷ []) up

ua_not_asked : restarts usual_terms ua begun_again ≡ true
unfolding seq distance_of named reading header_of control_of unnumbered_of supervisory_of after_all
ua_not_asked = refl

by_its_tei : restarts usual_terms cleared up ≡ true
unfolding seq distance_of named reading header_of control_of unnumbered_of supervisory_of after_all
by_its_tei = refl

-- REJ that takes V(S) back to 0 begins no numbers anew.
abbrev sent : Link
sent = after_all usual_terms (ask (Data (1 ∷ [])) ∷ offer ∷ []) up

rej_begins_none : restarts usual_terms (frame_comes (0x02 ∷ 0x81 ∷ 0x09 ∷ 0x00 ∷ [])) sent ≡ false
unfolding seq distance_of named reading header_of control_of unnumbered_of supervisory_of after_all
rej_begins_none = refl
