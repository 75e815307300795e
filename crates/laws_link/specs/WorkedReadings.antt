-- Worked values: rows that hold by annex B, beside those of the profile.
use Rattle.std.specs.Prelude.{◌≡◌, true, false, List, [], ◌∷◌, ◌++◌, replicate, None, Some, refl}
use Rattle.laws_link.specs.WorkedWords.{seq, distance_of, named, Call, Start, WrongState, supervisory_of, unnumbered_of, control_of, header_of, reading, AwaitingEstablishment, T200, T203, Data, Establish, Release, Event, cleared, expired, offer, overlong, received, fresh, after, after_all, refusal, told, usual_terms, by_annex_b, frame_comes, ask, out, notes, up}
use Rattle.model_link.specs.Counts.{none_counted}
use Rattle.lapd_frame.specs.declared.notes.Note.TheVariants as tell
use Rattle.lapd_frame.specs.declared.notes.ErrorCode.TheVariants as code
use Rattle.lapd_frame.specs.declared.timers.Timer.TheVariants as timer

-- An I-frame goes, and nothing is heard of it: with N200 3 and by annex B T200 sends three enquiries, where the profile has
-- four, and then SABME; with N200 0 it sends one, as the profile does.
abbrev unanswered : List Event
unanswered = expired T200 ∷ offer ∷ expired T200 ∷ offer ∷ expired T200 ∷ offer ∷ expired T200 ∷ offer ∷ []

abbrev sending : List Event
sending = ask (Data (0x41 ∷ [])) ∷ offer ∷ []

three_enquiries : out (by_annex_b 3) unanswered (after_all (by_annex_b 3) sending up)
    ≡ (0x02 ∷ 0x81 ∷ 0x01 ∷ 0x01 ∷ []) ∷ (0x02 ∷ 0x81 ∷ 0x01 ∷ 0x01 ∷ []) ∷ (0x02 ∷ 0x81 ∷ 0x01 ∷ 0x01 ∷ []) ∷ (0x02 ∷ 0x81 ∷ 0x7F ∷ []) ∷ []
unfolding seq distance_of named reading header_of control_of unnumbered_of supervisory_of after_all out
three_enquiries = refl

one_enquiry : out (by_annex_b 0) (expired T200 ∷ offer ∷ expired T200 ∷ offer ∷ []) (after_all (by_annex_b 0) sending up)
    ≡ (0x02 ∷ 0x81 ∷ 0x01 ∷ 0x01 ∷ []) ∷ (0x02 ∷ 0x81 ∷ 0x7F ∷ []) ∷ []
unfolding seq distance_of named reading header_of control_of unnumbered_of supervisory_of after_all out
one_enquiry = refl

-- After T203 there are four in both.
four_enquiries : out (by_annex_b 3) (expired T203 ∷ offer ∷ unanswered) up
    ≡ (0x02 ∷ 0x81 ∷ 0x01 ∷ 0x01 ∷ []) ∷ (0x02 ∷ 0x81 ∷ 0x01 ∷ 0x01 ∷ []) ∷ (0x02 ∷ 0x81 ∷ 0x01 ∷ 0x01 ∷ []) ∷ (0x02 ∷ 0x81 ∷ 0x01 ∷ 0x01 ∷ []) ∷ (0x02 ∷ 0x81 ∷ 0x7F ∷ []) ∷ []
unfolding seq distance_of named reading header_of control_of unnumbered_of supervisory_of after_all out
four_enquiries = refl

-- DM with F=0 meets a link that is down: SABME goes, as if layer 3 had asked.
asked_for : out (by_annex_b 3) (frame_comes (0x02 ∷ 0x81 ∷ 0x0F ∷ []) ∷ offer ∷ []) fresh ≡ (0x02 ∷ 0x81 ∷ 0x7F ∷ []) ∷ []
unfolding seq distance_of named reading header_of control_of unnumbered_of supervisory_of after_all out
asked_for = refl

asked_for_told : told (by_annex_b 3) (frame_comes (0x02 ∷ 0x81 ∷ 0x0F ∷ [])) fresh
    ≡ record { notes = []; delivered = None; unit = None; orders = Start (timer.T200 Call 64) ∷ []; lost = 0; given_up = 0; given_up_16 = 0; unserved = false }
unfolding seq distance_of named reading header_of control_of unnumbered_of supervisory_of after_all
asked_for_told = refl

asked_for_confirmed : notes (by_annex_b 3) (frame_comes (0x02 ∷ 0x81 ∷ 0x0F ∷ []) ∷ frame_comes (0x02 ∷ 0x81 ∷ 0x73 ∷ []) ∷ []) fresh
    ≡ tell.EstablishConfirm Call 64 ∷ []
unfolding seq distance_of named reading header_of control_of unnumbered_of supervisory_of after_all notes
asked_for_confirmed = refl

not_asked_for : told usual_terms (frame_comes (0x02 ∷ 0x81 ∷ 0x0F ∷ [])) fresh
    ≡ record { notes = []; delivered = None; unit = None; orders = []; lost = 0; given_up = 0; given_up_16 = 0; unserved = true }
unfolding seq distance_of named reading header_of control_of unnumbered_of supervisory_of after_all
not_asked_for = refl

-- An undefined frame, one of wrong size and an I-frame over N201 meet a link that is down.
malformed_told : notes (by_annex_b 3) (frame_comes (0x00 ∷ 0x81 ∷ 0x11 ∷ 0x00 ∷ []) ∷ frame_comes (0x00 ∷ 0x81 ∷ 0x01 ∷ 0x00 ∷ 0x00 ∷ []) ∷ received overlong ∷ []) fresh
    ≡ tell.Error Call 64 code.L ∷ tell.Error Call 64 code.N ∷ tell.Error Call 64 code.O ∷ []
unfolding seq distance_of named reading header_of control_of unnumbered_of supervisory_of after_all notes
malformed_told = refl

malformed_changes_nothing : after (by_annex_b 3) (received overlong) fresh ≡ fresh
malformed_changes_nothing = refl

-- UI over N201 is error O in all states, and in state 7 the link is established again.
long_unit_down : notes (by_annex_b 3) (frame_comes (0x00 ∷ 0x81 ∷ 0x03 ∷ replicate 261 0x55) ∷ []) fresh ≡ tell.Error Call 64 code.O ∷ []
unfolding seq distance_of named reading header_of control_of unnumbered_of supervisory_of after_all notes
long_unit_down = refl

long_unit_up : notes (by_annex_b 3) (frame_comes (0x00 ∷ 0x81 ∷ 0x03 ∷ replicate 261 0x55) ∷ []) up ≡ tell.Error Call 64 code.O ∷ []
unfolding seq distance_of named reading header_of control_of unnumbered_of supervisory_of after_all notes
long_unit_up = refl

long_unit_leads : (after (by_annex_b 3) (frame_comes (0x00 ∷ 0x81 ∷ 0x03 ∷ replicate 261 0x55)) up).state ≡ AwaitingEstablishment
unfolding seq distance_of named reading header_of control_of unnumbered_of supervisory_of after_all
long_unit_leads = refl

-- Layer 3 asks for the release while the establishment is awaited: it is owed. DISC goes as UA comes, and the next UA is its
-- confirm. No establishment is counted.
abbrev ua : Event
ua = frame_comes (0x02 ∷ 0x81 ∷ 0x73 ∷ [])

abbrev owing : List Event
owing = ask Establish ∷ offer ∷ ask Release ∷ []

owes : after_all (by_annex_b 3) owing fresh ≡ record fresh { state = AwaitingEstablishment; owed = true; running = Some T200 }
unfolding seq distance_of named reading header_of control_of unnumbered_of supervisory_of after_all
owes = refl

carried_out : out (by_annex_b 3) (owing ++ offer ∷ ua ∷ offer ∷ offer ∷ []) fresh ≡ (0x02 ∷ 0x81 ∷ 0x7F ∷ []) ∷ (0x02 ∷ 0x81 ∷ 0x53 ∷ []) ∷ []
unfolding seq distance_of named reading header_of control_of unnumbered_of supervisory_of after_all out
carried_out = refl

confirmed_once : notes (by_annex_b 3) (owing ++ ua ∷ ua ∷ []) fresh ≡ tell.ReleaseConfirm Call 64 ∷ []
unfolding seq distance_of named reading header_of control_of unnumbered_of supervisory_of after_all notes
confirmed_once = refl

none_established : (after_all (by_annex_b 3) (owing ++ ua ∷ ua ∷ []) fresh).counts ≡ none_counted
unfolding seq distance_of named reading header_of control_of unnumbered_of supervisory_of after_all
none_established = refl

-- The confirm stands for the release indication, where the other end refuses, nothing answers, or the TEI leaves.
by_dm : notes (by_annex_b 3) (owing ++ frame_comes (0x02 ∷ 0x81 ∷ 0x1F ∷ []) ∷ []) fresh ≡ tell.ReleaseConfirm Call 64 ∷ []
unfolding seq distance_of named reading header_of control_of unnumbered_of supervisory_of after_all notes
by_dm = refl

unanswered_too : notes (by_annex_b 0) (owing ++ expired T200 ∷ []) fresh ≡ tell.Error Call 64 code.G ∷ tell.ReleaseConfirm Call 64 ∷ []
unfolding seq distance_of named reading header_of control_of unnumbered_of supervisory_of after_all notes
unanswered_too = refl

by_leaving : notes (by_annex_b 3) (owing ++ cleared ∷ []) fresh ≡ tell.ReleaseConfirm Call 64 ∷ []
unfolding seq distance_of named reading header_of control_of unnumbered_of supervisory_of after_all notes
by_leaving = refl

-- It is not asked for twice, and an establishment withdraws it: one confirm answers both. The profile refuses both.
not_twice : refusal (by_annex_b 3) (after_all (by_annex_b 3) owing fresh) false Release ≡ Some WrongState
unfolding seq distance_of named reading header_of control_of unnumbered_of supervisory_of after_all
not_twice = refl

withdrawn : notes (by_annex_b 3) (owing ++ ask Establish ∷ ua ∷ []) fresh ≡ tell.EstablishConfirm Call 64 ∷ []
unfolding seq distance_of named reading header_of control_of unnumbered_of supervisory_of after_all notes
withdrawn = refl

not_released : refusal usual_terms (after_all usual_terms (ask Establish ∷ []) fresh) false Release ≡ Some WrongState
unfolding after_all
not_released = refl

not_established : refusal usual_terms (after_all usual_terms (ask Establish ∷ []) fresh) false Establish ≡ Some WrongState
unfolding after_all
not_established = refl

-- A link that is established anew keeps contents: either request gives them up, and tells it.
abbrev keeping : List Event
keeping = sending ++ ask (Data (0x42 ∷ [])) ∷ frame_comes (0x02 ∷ 0x81 ∷ 0x0F ∷ []) ∷ []

released_anew : (told (by_annex_b 3) (ask Release) (after_all (by_annex_b 3) keeping up)).given_up ≡ 2
unfolding seq distance_of named reading header_of control_of unnumbered_of supervisory_of after_all
released_anew = refl

established_anew : told (by_annex_b 3) (ask Establish) (after_all (by_annex_b 3) keeping up)
    ≡ record { notes = []; delivered = None; unit = None; orders = []; lost = 0; given_up = 2; given_up_16 = 0; unserved = false }
unfolding seq distance_of named reading header_of control_of unnumbered_of supervisory_of after_all
established_anew = refl
