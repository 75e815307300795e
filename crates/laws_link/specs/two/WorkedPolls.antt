-- Worked values: polls and their answers, and what goes in its turn.
use Rattle.std.specs.Prelude.{◌≡◌, ℕ, false, true, List, [], ◌∷◌, refl, Some}
use Rattle.laws_link.specs.WorkedWords.{seq, distance_of, named, ReceiveReady, ReceiveNotReady, Reject, Ua, Dm, supervisory_of, unnumbered_of, control_of, header_of, reading, ControlFrame, T200, Link, fresh, Data, SetBusy, response, after, after_all, usual_terms, frame_comes, ask, up}

-- What waits after an event.
abbrev waits_after : List ℕ → Link → List ControlFrame
waits_after octets l = (after usual_terms (frame_comes octets) l).waiting

-- RR with P=1 in state 7: RR with F=1. Two of them: two answers.
rr_polled : waits_after (0x00 ∷ 0x81 ∷ 0x01 ∷ 0x01 ∷ []) up ≡ response (ReceiveReady (seq 0) true) ∷ []
unfolding seq distance_of named reading header_of control_of unnumbered_of supervisory_of after_all
rr_polled = refl

rr_polled_twice : waits_after (0x00 ∷ 0x81 ∷ 0x01 ∷ 0x01 ∷ []) (after usual_terms (frame_comes (0x00 ∷ 0x81 ∷ 0x01 ∷ 0x01 ∷ [])) up)
    ≡ response (ReceiveReady (seq 0) true) ∷ response (ReceiveReady (seq 0) true) ∷ []
unfolding seq distance_of named reading header_of control_of unnumbered_of supervisory_of after_all
rr_polled_twice = refl

-- An I-frame with P=1: V(R) counts it before the answer. One out of sequence: REJ with F=1.
information_polled : waits_after (0x00 ∷ 0x81 ∷ 0x00 ∷ 0x01 ∷ 0x41 ∷ []) up ≡ response (ReceiveReady (seq 1) true) ∷ []
unfolding seq distance_of named reading header_of control_of unnumbered_of supervisory_of after_all
information_polled = refl

information_out_of_sequence_polled : waits_after (0x00 ∷ 0x81 ∷ 0x02 ∷ 0x01 ∷ 0x41 ∷ []) up ≡ response (Reject (seq 0) true) ∷ []
unfolding seq distance_of named reading header_of control_of unnumbered_of supervisory_of after_all
information_out_of_sequence_polled = refl

-- With own busy on: RNR behind the RNR that told of it.
busy_polled : waits_after (0x00 ∷ 0x81 ∷ 0x01 ∷ 0x01 ∷ []) (after usual_terms (ask SetBusy) up)
    ≡ response (ReceiveNotReady (seq 0) false) ∷ response (ReceiveNotReady (seq 0) true) ∷ []
unfolding seq distance_of named reading header_of control_of unnumbered_of supervisory_of after_all
busy_polled = refl

-- A response with F=1, and a command with P=0, have no answer.
no_poll : waits_after (0x02 ∷ 0x81 ∷ 0x01 ∷ 0x01 ∷ []) up ≡ []
unfolding seq distance_of named reading header_of control_of unnumbered_of supervisory_of after_all
no_poll = refl

-- RNR: T200 runs, so that the terminal is asked again.
busy_asked_again : (after usual_terms (frame_comes (0x00 ∷ 0x81 ∷ 0x05 ∷ 0x00 ∷ [])) up).running ≡ Some T200
unfolding seq distance_of named reading header_of control_of unnumbered_of supervisory_of after_all
busy_asked_again = refl

-- SABME and DISC with P=1 in state 4.
sabme_in_4 : waits_after (0x00 ∷ 0x81 ∷ 0x7F ∷ []) fresh ≡ response (Ua true) ∷ []
unfolding seq distance_of named reading header_of control_of unnumbered_of supervisory_of after_all
sabme_in_4 = refl

disc_in_4 : waits_after (0x00 ∷ 0x81 ∷ 0x53 ∷ []) fresh ≡ response (Dm true) ∷ []
unfolding seq distance_of named reading header_of control_of unnumbered_of supervisory_of after_all
disc_in_4 = refl

-- With two contents and an acknowledgement owed, three turns at most; two are enough, since an I-frame acknowledges.
abbrev owing : Link
owing = after_all usual_terms (ask (Data (1 ∷ [])) ∷ ask (Data (2 ∷ [])) ∷ frame_comes (0x00 ∷ 0x81 ∷ 0x00 ∷ 0x00 ∷ 0x41 ∷ []) ∷ []) up
