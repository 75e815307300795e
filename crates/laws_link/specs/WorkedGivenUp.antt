-- Worked values: what is given up of two contents that were granted, and of which one was sent.
use Rattle.std.specs.Prelude.{◌≡◌, ℕ, List, [], ◌∷◌, ◌++◌, refl}
use Rattle.laws_link.specs.WorkedWords.{seq, distance_of, named, supervisory_of, unnumbered_of, control_of, header_of, reading, fresh, Data, Release, Event, offer, cleared, after_all, told, packet, usual_terms, frame_comes, ask, sabme, up}

abbrev granted : List Event
granted = ask (Data (0x41 ∷ [])) ∷ ask (Data (0x42 ∷ [])) ∷ offer ∷ []

abbrev given_up : List Event → Event → ℕ
given_up es e = (told usual_terms e (after_all usual_terms es up)).given_up

-- A release that layer 3 asks for gives both up; the UA that ends it, and the TEI that leaves then, nothing more.
by_release : given_up granted (ask Release) ≡ 2
unfolding seq distance_of named reading header_of control_of unnumbered_of supervisory_of after_all
by_release = refl

after_release : given_up (granted ++ ask Release ∷ []) (frame_comes (0x02 ∷ 0x81 ∷ 0x73 ∷ [])) ≡ 0
unfolding seq distance_of named reading header_of control_of unnumbered_of supervisory_of after_all
after_release = refl

left_after_release : given_up (granted ++ ask Release ∷ []) cleared ≡ 0
unfolding seq distance_of named reading header_of control_of unnumbered_of supervisory_of after_all
left_after_release = refl

-- The terminal's DISC gives both up, and so do the terminal's SABME, since one is outstanding, and the TEI that leaves.
by_disc : given_up granted (frame_comes (0x00 ∷ 0x81 ∷ 0x53 ∷ [])) ≡ 2
unfolding seq distance_of named reading header_of control_of unnumbered_of supervisory_of after_all
by_disc = refl

by_sabme : given_up granted sabme ≡ 2
unfolding seq distance_of named reading header_of control_of unnumbered_of supervisory_of after_all
by_sabme = refl

by_leaving : given_up granted cleared ≡ 2
unfolding seq distance_of named reading header_of control_of unnumbered_of supervisory_of after_all
by_leaving = refl

-- What RR acknowledged is not among them; and where none is outstanding, those that were not sent stay.
one_acknowledged : given_up (granted ++ frame_comes (0x02 ∷ 0x81 ∷ 0x01 ∷ 0x02 ∷ []) ∷ offer ∷ []) sabme ≡ 1
unfolding seq distance_of named reading header_of control_of unnumbered_of supervisory_of after_all
one_acknowledged = refl

none_outstanding : given_up (granted ++ frame_comes (0x02 ∷ 0x81 ∷ 0x01 ∷ 0x02 ∷ []) ∷ []) sabme ≡ 0
unfolding seq distance_of named reading header_of control_of unnumbered_of supervisory_of after_all
none_outstanding = refl

-- An error of the link, as DM with F=0, gives nothing up: the UA of the new establishment does.
by_dm : given_up granted (frame_comes (0x02 ∷ 0x81 ∷ 0x0F ∷ [])) ≡ 0
unfolding seq distance_of named reading header_of control_of unnumbered_of supervisory_of after_all
by_dm = refl

by_ua : given_up (granted ++ frame_comes (0x02 ∷ 0x81 ∷ 0x0F ∷ []) ∷ []) (frame_comes (0x02 ∷ 0x81 ∷ 0x73 ∷ [])) ≡ 2
unfolding seq distance_of named reading header_of control_of unnumbered_of supervisory_of after_all
by_ua = refl

-- Of a link of the second service the other number tells it.
of_packet : (told packet cleared (after_all packet granted (after_all packet (frame_comes (0x40 ∷ 0x81 ∷ 0x7F ∷ []) ∷ offer ∷ []) fresh))).given_up_16 ≡ 2
unfolding seq distance_of named reading header_of control_of unnumbered_of supervisory_of after_all
of_packet = refl

not_of_call : (told packet cleared (after_all packet granted (after_all packet (frame_comes (0x40 ∷ 0x81 ∷ 0x7F ∷ []) ∷ offer ∷ []) fresh))).given_up ≡ 0
unfolding seq distance_of named reading header_of control_of unnumbered_of supervisory_of after_all
not_of_call = refl
