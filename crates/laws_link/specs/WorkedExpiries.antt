-- Worked values: what comes of the expiry of T200 and T203.
use Rattle.std.specs.Prelude.{◌≡◌, true, List, [], ◌∷◌, replicate, refl}
use Rattle.laws_link.specs.WorkedWords.{seq, distance_of, named, ReceiveReady, Sabme, Disc, Call, supervisory_of, unnumbered_of, control_of, header_of, reading, ControlFrame, TeiAssigned, AwaitingEstablishment, TimerRecovery, T200, T203, Event, Establish, Release, expired, offer, Link, fresh, after, after_all, told, command, usual_terms, ask, up}
use Rattle.lapd_frame.specs.declared.notes.ErrorCode.TheVariants as code
use Rattle.lapd_frame.specs.declared.notes.Note.TheVariants as notes

abbrev waits_after : Event → Link → List ControlFrame
waits_after e l = (after usual_terms e l).waiting

-- SABME went, and so did DISC; T200 sends each again.
abbrev establishing : Link
establishing = after_all usual_terms (ask Establish ∷ offer ∷ []) fresh

sabme_again : waits_after (expired T200) establishing ≡ command (Sabme true) ∷ []
unfolding seq distance_of named reading header_of control_of unnumbered_of supervisory_of after_all
sabme_again = refl

disc_again : waits_after (expired T200) (after_all usual_terms (ask Release ∷ offer ∷ []) up) ≡ command (Disc true) ∷ []
unfolding seq distance_of named reading header_of control_of unnumbered_of supervisory_of after_all
disc_again = refl

-- With N200 of 3, the fourth expiry gives the link up.
abbrev three_times : Link
three_times = after_all usual_terms (replicate 3 (expired T200)) establishing

given_up : (after usual_terms (expired T200) three_times).state ≡ TeiAssigned
unfolding seq distance_of named reading header_of control_of unnumbered_of supervisory_of after_all
given_up = refl

given_up_told : (told usual_terms (expired T200) three_times).notes ≡ notes.Error Call 64 code.G ∷ notes.ReleaseIndication Call 64 ∷ []
unfolding seq distance_of named reading header_of control_of unnumbered_of supervisory_of after_all
given_up_told = refl

-- T203 asks for the terminal's state, and T200 asks again;
abbrev asking : Link
asking = after_all usual_terms (expired T203 ∷ offer ∷ []) up

enquiry_waits : waits_after (expired T203) up ≡ command (ReceiveReady (seq 0) true) ∷ []
unfolding seq distance_of named reading header_of control_of unnumbered_of supervisory_of after_all
enquiry_waits = refl

enquiry_awaited : asking.state ≡ TimerRecovery
unfolding seq distance_of named reading header_of control_of unnumbered_of supervisory_of after_all
enquiry_awaited = refl

enquiry_again : waits_after (expired T200) asking ≡ command (ReceiveReady (seq 0) true) ∷ []
unfolding seq distance_of named reading header_of control_of unnumbered_of supervisory_of after_all
enquiry_again = refl

-- and the fourth T200 leads to an establishment.
abbrev asked_four_times : Link
asked_four_times = after_all usual_terms (replicate 3 (expired T200)) asking

establishes_anew : (after usual_terms (expired T200) asked_four_times).state ≡ AwaitingEstablishment
unfolding seq distance_of named reading header_of control_of unnumbered_of supervisory_of after_all
establishes_anew = refl

establishes_anew_told : (told usual_terms (expired T200) asked_four_times).notes ≡ notes.Error Call 64 code.I ∷ []
unfolding seq distance_of named reading header_of control_of unnumbered_of supervisory_of after_all
establishes_anew_told = refl
