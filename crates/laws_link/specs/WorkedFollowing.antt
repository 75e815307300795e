-- Worked values: what an event leaves of a link.
use Rattle.std.specs.Prelude.{◌≡◌, true, false, List, [], ◌∷◌, refl}
use Rattle.laws_link.specs.WorkedWords.{seq, distance_of, named, supervisory_of, unnumbered_of, control_of, header_of, reading, ReceiveReady, ReceiveNotReady, Reject, Sabme, Call, State, AwaitingEstablishment, Established, TimerRecovery, T203, ControlFrame, Link, fresh, Event, SetBusy, expired, after, after_all, usual_terms, frame_comes, ask, sabme, up, as_heard, state_after, numbers_begin, put}
use Rattle.laws_link.specs.WorkedWords.{peer_busy_left, pending_left, told_by}
use Rattle.lapd_frame.specs.declared.notes.ErrorCode.TheVariants as code
use Rattle.lapd_frame.specs.declared.notes.Note.TheVariants as notes

-- by the tables
abbrev led : Event → Link → State
led e l = state_after usual_terms (as_heard usual_terms e) l

abbrev puts : Event → Link → List ControlFrame
puts e l = put (as_heard usual_terms e) l (led e l)

-- SABME leads to state 7, and RR with N(R) 5, of which nothing was sent, from there to state 5: SABME goes.
by_sabme : led sabme fresh ≡ Established
unfolding seq distance_of named reading header_of control_of unnumbered_of supervisory_of after_all
by_sabme = refl

by_number : led (frame_comes (0x02 ∷ 0x81 ∷ 0x01 ∷ 0x0A ∷ [])) up ≡ AwaitingEstablishment
unfolding seq distance_of named reading header_of control_of unnumbered_of supervisory_of after_all
by_number = refl

by_number_puts : puts (frame_comes (0x02 ∷ 0x81 ∷ 0x01 ∷ 0x0A ∷ [])) up ≡ record { command = true; control = Sabme true } ∷ []
unfolding seq distance_of named reading header_of control_of unnumbered_of supervisory_of after_all
by_number_puts = refl

-- RNR says that the terminal is busy.
by_rnr : peer_busy_left (frame_comes (0x02 ∷ 0x81 ∷ 0x05 ∷ 0x00 ∷ [])) up Established ≡ true
unfolding seq distance_of named reading header_of control_of unnumbered_of supervisory_of after_all
by_rnr = refl

-- The expiry of T203 leads to an enquiry.
by_t203 : led (expired T203) up ≡ TimerRecovery
unfolding seq distance_of named reading header_of control_of unnumbered_of supervisory_of after_all
by_t203 = refl

by_t203_puts : puts (expired T203) up ≡ record { command = true; control = ReceiveReady (seq 0) true } ∷ []
unfolding seq distance_of named reading header_of control_of unnumbered_of supervisory_of after_all
by_t203_puts = refl

-- RR with P=1 is answered by RR, and under own busy by RNR; I-frame 1 with P=1, before I-frame 0, by REJ.
to_poll : puts (frame_comes (0x00 ∷ 0x81 ∷ 0x01 ∷ 0x01 ∷ [])) up ≡ record { command = false; control = ReceiveReady (seq 0) true } ∷ []
unfolding seq distance_of named reading header_of control_of unnumbered_of supervisory_of after_all
to_poll = refl

to_poll_when_busy : puts (frame_comes (0x00 ∷ 0x81 ∷ 0x01 ∷ 0x01 ∷ [])) (after usual_terms (ask SetBusy) up)
    ≡ record { command = false; control = ReceiveNotReady (seq 0) true } ∷ []
unfolding seq distance_of named reading header_of control_of unnumbered_of supervisory_of after_all
to_poll_when_busy = refl

to_gap : puts (frame_comes (0x00 ∷ 0x81 ∷ 0x02 ∷ 0x01 ∷ 0x41 ∷ [])) up ≡ record { command = false; control = Reject (seq 0) true } ∷ []
unfolding seq distance_of named reading header_of control_of unnumbered_of supervisory_of after_all
to_gap = refl

-- An acknowledgement that is owed for I-frame 0 is owed still after UI; and UA with F=1 in state 7 begins no numbers.
owed : pending_left (frame_comes (0x00 ∷ 0x81 ∷ 0x03 ∷ 0xCB ∷ [])) (after usual_terms (frame_comes (0x00 ∷ 0x81 ∷ 0x00 ∷ 0x00 ∷ 0x41 ∷ [])) up) Established ≡ true
unfolding seq distance_of named reading header_of control_of unnumbered_of supervisory_of after_all
owed = refl

ua_begins_none : numbers_begin (frame_comes (0x02 ∷ 0x81 ∷ 0x73 ∷ [])) Established Established ≡ false
unfolding seq distance_of named reading header_of control_of unnumbered_of supervisory_of after_all
ua_begins_none = refl

-- That UA is told as error C.
ua_told : told_by usual_terms (frame_comes (0x02 ∷ 0x81 ∷ 0x73 ∷ [])) up Established ≡ notes.Error Call 64 code.C ∷ []
unfolding seq distance_of named reading header_of control_of unnumbered_of supervisory_of after_all
ua_told = refl
