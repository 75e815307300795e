-- Worked values: links are established and released.
use Rattle.std.specs.Prelude.{◌≡◌, true, false, [], ◌∷◌, None, Some, refl}
use Rattle.laws_link.specs.WorkedWords.{seq, distance_of, named, Call, Packet, Start, Stop, WrongState, supervisory_of, unnumbered_of, control_of, header_of, reading, TeiAssigned, AwaitingEstablishment, Established, T200, T203, fresh, Establish, Release, expired, offer, cleared, refusal, after, after_all, told, price_of_all, usual_terms, with_n200, packet, frame_comes, ask, out, notes, lost}
use Rattle.laws_link.specs.WorkedWords.{told_after, sabme, up}
use Rattle.model_link.specs.Counts.{none_counted}
use Rattle.lapd_frame.specs.declared.notes.Note.TheVariants as tell
use Rattle.lapd_frame.specs.declared.notes.ErrorCode.TheVariants as code
use Rattle.lapd_frame.specs.declared.timers.Timer.TheVariants as timer

-- Establish, and T200 four times with N200 3: SABME four times, then error G and a release indication.
refused_thrice : out usual_terms (ask Establish ∷ offer ∷ expired T200 ∷ offer ∷ expired T200 ∷ offer ∷ expired T200 ∷ offer ∷ expired T200 ∷ offer ∷ []) fresh
    ≡ (0x02 ∷ 0x81 ∷ 0x7F ∷ []) ∷ (0x02 ∷ 0x81 ∷ 0x7F ∷ []) ∷ (0x02 ∷ 0x81 ∷ 0x7F ∷ []) ∷ (0x02 ∷ 0x81 ∷ 0x7F ∷ []) ∷ []
unfolding seq distance_of named reading header_of control_of unnumbered_of supervisory_of after_all out notes lost price_of_all
refused_thrice = refl

refused_thrice_notes : notes usual_terms (ask Establish ∷ expired T200 ∷ expired T200 ∷ expired T200 ∷ expired T200 ∷ []) fresh
    ≡ tell.Error Call 64 code.G ∷ tell.ReleaseIndication Call 64 ∷ []
unfolding seq distance_of named reading header_of control_of unnumbered_of supervisory_of after_all out notes lost price_of_all
refused_thrice_notes = refl

refused_thrice_state : after_all usual_terms (ask Establish ∷ offer ∷ expired T200 ∷ offer ∷ expired T200 ∷ offer ∷ expired T200 ∷ offer ∷ expired T200 ∷ offer ∷ []) fresh
    ≡ record fresh { asked = true; repeats = 3; counts = record none_counted { t200_expired = 4 } }
unfolding seq distance_of named reading header_of control_of unnumbered_of supervisory_of after_all out notes lost price_of_all
refused_thrice_state = refl

-- With N200 0 there is one SABME.
never_repeated : out (with_n200 0) (ask Establish ∷ expired T200 ∷ offer ∷ offer ∷ []) fresh
    ≡ (0x02 ∷ 0x81 ∷ 0x7F ∷ []) ∷ []
unfolding seq distance_of named reading header_of control_of unnumbered_of supervisory_of after_all out notes lost price_of_all
never_repeated = refl

never_repeated_told : told_after (with_n200 0) (ask Establish ∷ []) (expired T200) fresh
    ≡ record { notes = tell.Error Call 64 code.G ∷ tell.ReleaseIndication Call 64 ∷ []; delivered = None; unit = None; orders = Stop (timer.T200 Call 64) ∷ []; lost = 0; given_up = 0; given_up_16 = 0; unserved = false }
unfolding seq distance_of named reading header_of control_of unnumbered_of supervisory_of after_all out notes lost price_of_all
never_repeated_told = refl

-- Establish, and UA with F=1: an establish confirm, T203 in place of T200, state 7.
confirmed : told_after usual_terms (ask Establish ∷ offer ∷ []) (frame_comes (0x02 ∷ 0x81 ∷ 0x73 ∷ [])) fresh
    ≡ record { notes = tell.EstablishConfirm Call 64 ∷ []; delivered = None; unit = None; orders = Stop (timer.T200 Call 64) ∷ Start (timer.T203 Call 64) ∷ []; lost = 0; given_up = 0; given_up_16 = 0; unserved = false }
unfolding seq distance_of named reading header_of control_of unnumbered_of supervisory_of after_all out notes lost price_of_all
confirmed = refl

confirmed_state : (after_all usual_terms (ask Establish ∷ offer ∷ frame_comes (0x02 ∷ 0x81 ∷ 0x73 ∷ []) ∷ []) fresh).state
    ≡ Established
unfolding seq distance_of named reading header_of control_of unnumbered_of supervisory_of after_all out notes lost price_of_all
confirmed_state = refl

-- UA with F=0 is error D, and state 5 stays.
not_confirmed : told_after usual_terms (ask Establish ∷ offer ∷ []) (frame_comes (0x02 ∷ 0x81 ∷ 0x63 ∷ [])) fresh
    ≡ record { notes = tell.Error Call 64 code.D ∷ []; delivered = None; unit = None; orders = []; lost = 0; given_up = 0; given_up_16 = 0; unserved = false }
unfolding seq distance_of named reading header_of control_of unnumbered_of supervisory_of after_all out notes lost price_of_all
not_confirmed = refl

not_confirmed_state : (after_all usual_terms (ask Establish ∷ offer ∷ frame_comes (0x02 ∷ 0x81 ∷ 0x63 ∷ []) ∷ []) fresh).state
    ≡ AwaitingEstablishment
unfolding seq distance_of named reading header_of control_of unnumbered_of supervisory_of after_all out notes lost price_of_all
not_confirmed_state = refl

-- State 7, and DM with F=0: error E, SABME, state 5.
begun_again : told usual_terms (frame_comes (0x02 ∷ 0x81 ∷ 0x0F ∷ [])) up
    ≡ record { notes = tell.Error Call 64 code.E ∷ []; delivered = None; unit = None; orders = Start (timer.T200 Call 64) ∷ Stop (timer.T203 Call 64) ∷ []; lost = 0; given_up = 0; given_up_16 = 0; unserved = false }
unfolding seq distance_of named reading header_of control_of unnumbered_of supervisory_of after_all out notes lost price_of_all
begun_again = refl

begun_again_out : out usual_terms (frame_comes (0x02 ∷ 0x81 ∷ 0x0F ∷ []) ∷ offer ∷ offer ∷ []) up
    ≡ (0x02 ∷ 0x81 ∷ 0x7F ∷ []) ∷ []
unfolding seq distance_of named reading header_of control_of unnumbered_of supervisory_of after_all out notes lost price_of_all
begun_again_out = refl

begun_again_state : (after_all usual_terms (frame_comes (0x02 ∷ 0x81 ∷ 0x0F ∷ []) ∷ []) up).state
    ≡ AwaitingEstablishment
unfolding seq distance_of named reading header_of control_of unnumbered_of supervisory_of after_all out notes lost price_of_all
begun_again_state = refl

-- State 7, Release, and UA with F=1: DISC, a release confirm, state 4.
released : out usual_terms (ask Release ∷ offer ∷ frame_comes (0x02 ∷ 0x81 ∷ 0x73 ∷ []) ∷ offer ∷ []) up
    ≡ (0x02 ∷ 0x81 ∷ 0x53 ∷ []) ∷ []
unfolding seq distance_of named reading header_of control_of unnumbered_of supervisory_of after_all out notes lost price_of_all
released = refl

released_told : told_after usual_terms (ask Release ∷ offer ∷ []) (frame_comes (0x02 ∷ 0x81 ∷ 0x73 ∷ [])) up
    ≡ record { notes = tell.ReleaseConfirm Call 64 ∷ []; delivered = None; unit = None; orders = Stop (timer.T200 Call 64) ∷ []; lost = 0; given_up = 0; given_up_16 = 0; unserved = false }
unfolding seq distance_of named reading header_of control_of unnumbered_of supervisory_of after_all out notes lost price_of_all
released_told = refl

released_state : (after_all usual_terms (ask Release ∷ offer ∷ frame_comes (0x02 ∷ 0x81 ∷ 0x73 ∷ []) ∷ []) up).state
    ≡ TeiAssigned
unfolding seq distance_of named reading header_of control_of unnumbered_of supervisory_of after_all out notes lost price_of_all
released_state = refl

-- The terminal's SABME: UA, an establish indication, T203 started, state 7.
established : told usual_terms sabme fresh
    ≡ record { notes = tell.EstablishIndication Call 64 ∷ []; delivered = None; unit = None; orders = Start (timer.T203 Call 64) ∷ []; lost = 0; given_up = 0; given_up_16 = 0; unserved = false }
unfolding seq distance_of named reading header_of control_of unnumbered_of supervisory_of after_all out notes lost price_of_all
established = refl

established_out : out usual_terms (sabme ∷ offer ∷ offer ∷ []) fresh
    ≡ (0x00 ∷ 0x81 ∷ 0x73 ∷ []) ∷ []
unfolding seq distance_of named reading header_of control_of unnumbered_of supervisory_of after_all out notes lost price_of_all
established_out = refl

established_state : up
    ≡ record fresh { state = Established; running = Some T203; counts = record none_counted { established = 1 } }
unfolding seq distance_of named reading header_of control_of unnumbered_of supervisory_of after_all out notes lost price_of_all
established_state = refl

-- The terminal's DISC in state 7: UA, a release indication, T203 stopped, state 4.
released_by_the_terminal : told usual_terms (frame_comes (0x00 ∷ 0x81 ∷ 0x53 ∷ [])) up
    ≡ record { notes = tell.ReleaseIndication Call 64 ∷ []; delivered = None; unit = None; orders = Stop (timer.T203 Call 64) ∷ []; lost = 0; given_up = 0; given_up_16 = 0; unserved = false }
unfolding seq distance_of named reading header_of control_of unnumbered_of supervisory_of after_all out notes lost price_of_all
released_by_the_terminal = refl

released_by_the_terminal_out : out usual_terms (frame_comes (0x00 ∷ 0x81 ∷ 0x53 ∷ []) ∷ offer ∷ offer ∷ []) up
    ≡ (0x00 ∷ 0x81 ∷ 0x73 ∷ []) ∷ []
unfolding seq distance_of named reading header_of control_of unnumbered_of supervisory_of after_all out notes lost price_of_all
released_by_the_terminal_out = refl

released_by_the_terminal_state : (after usual_terms (frame_comes (0x00 ∷ 0x81 ∷ 0x53 ∷ [])) up).state
    ≡ TeiAssigned
unfolding seq distance_of named reading header_of control_of unnumbered_of supervisory_of after_all out notes lost price_of_all
released_by_the_terminal_state = refl

-- SABME once and then four times with P=0, none pulled: the fifth UA is lost.
fifth_is_lost : told_after usual_terms (sabme ∷ frame_comes (0x00 ∷ 0x81 ∷ 0x6F ∷ []) ∷ frame_comes (0x00 ∷ 0x81 ∷ 0x6F ∷ []) ∷ frame_comes (0x00 ∷ 0x81 ∷ 0x6F ∷ []) ∷ []) (frame_comes (0x00 ∷ 0x81 ∷ 0x6F ∷ [])) fresh
    ≡ record { notes = tell.Error Call 64 code.F ∷ []; delivered = None; unit = None; orders = Start (timer.T203 Call 64) ∷ []; lost = 1; given_up = 0; given_up_16 = 0; unserved = false }
unfolding seq distance_of named reading header_of control_of unnumbered_of supervisory_of after_all out notes lost price_of_all
fifth_is_lost = refl

fifth_is_lost_out : out usual_terms (sabme ∷ frame_comes (0x00 ∷ 0x81 ∷ 0x6F ∷ []) ∷ frame_comes (0x00 ∷ 0x81 ∷ 0x6F ∷ []) ∷ frame_comes (0x00 ∷ 0x81 ∷ 0x6F ∷ []) ∷ frame_comes (0x00 ∷ 0x81 ∷ 0x6F ∷ []) ∷ offer ∷ offer ∷ offer ∷ offer ∷ offer ∷ []) fresh
    ≡ (0x00 ∷ 0x81 ∷ 0x73 ∷ []) ∷ (0x00 ∷ 0x81 ∷ 0x63 ∷ []) ∷ (0x00 ∷ 0x81 ∷ 0x63 ∷ []) ∷ (0x00 ∷ 0x81 ∷ 0x63 ∷ []) ∷ []
unfolding seq distance_of named reading header_of control_of unnumbered_of supervisory_of after_all out notes lost price_of_all
fifth_is_lost_out = refl

-- A packet link has SAPI 16.
packet_established : told packet (frame_comes (0x40 ∷ 0x81 ∷ 0x7F ∷ [])) fresh
    ≡ record { notes = tell.EstablishIndication Packet 64 ∷ []; delivered = None; unit = None; orders = Start (timer.T203 Packet 64) ∷ []; lost = 0; given_up = 0; given_up_16 = 0; unserved = false }
unfolding seq distance_of named reading header_of control_of unnumbered_of supervisory_of after_all out notes lost price_of_all
packet_established = refl

packet_established_out : out packet (frame_comes (0x40 ∷ 0x81 ∷ 0x7F ∷ []) ∷ offer ∷ []) fresh
    ≡ (0x40 ∷ 0x81 ∷ 0x73 ∷ []) ∷ []
unfolding seq distance_of named reading header_of control_of unnumbered_of supervisory_of after_all out notes lost price_of_all
packet_established_out = refl

-- The TEI leaves the line.
cleared_in_7 : told usual_terms cleared up
    ≡ record { notes = tell.ReleaseIndication Call 64 ∷ []; delivered = None; unit = None; orders = Stop (timer.T203 Call 64) ∷ []; lost = 0; given_up = 0; given_up_16 = 0; unserved = false }
unfolding seq distance_of named reading header_of control_of unnumbered_of supervisory_of after_all out notes lost price_of_all
cleared_in_7 = refl

cleared_in_7_state : after usual_terms cleared up
    ≡ fresh
unfolding seq distance_of named reading header_of control_of unnumbered_of supervisory_of after_all out notes lost price_of_all
cleared_in_7_state = refl

cleared_in_6 : told_after usual_terms (ask Release ∷ []) cleared up
    ≡ record { notes = tell.ReleaseConfirm Call 64 ∷ []; delivered = None; unit = None; orders = Stop (timer.T200 Call 64) ∷ []; lost = 0; given_up = 0; given_up_16 = 0; unserved = false }
unfolding seq distance_of named reading header_of control_of unnumbered_of supervisory_of after_all out notes lost price_of_all
cleared_in_6 = refl

-- States 4, 5 and 6 don't serve RR, and the request for what is there already is refused.
unserved_in_4 : told usual_terms (frame_comes (0x00 ∷ 0x81 ∷ 0x01 ∷ 0x01 ∷ [])) fresh
    ≡ record { notes = []; delivered = None; unit = None; orders = []; lost = 0; given_up = 0; given_up_16 = 0; unserved = true }
unfolding seq distance_of named reading header_of control_of unnumbered_of supervisory_of after_all out notes lost price_of_all
unserved_in_4 = refl

establish_refused : refusal usual_terms up false Establish
    ≡ Some WrongState
unfolding seq distance_of named reading header_of control_of unnumbered_of supervisory_of after_all out notes lost price_of_all
establish_refused = refl

-- Release in state 4 is confirmed at once.
released_while_down : told usual_terms (ask Release) fresh
    ≡ record { notes = tell.ReleaseConfirm Call 64 ∷ []; delivered = None; unit = None; orders = []; lost = 0; given_up = 0; given_up_16 = 0; unserved = false }
unfolding seq distance_of named reading header_of control_of unnumbered_of supervisory_of after_all out notes lost price_of_all
released_while_down = refl
