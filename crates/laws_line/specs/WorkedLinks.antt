-- Worked values: what frames, requests and calls for the next frame make of a link of a line.
use Rattle.std.specs.Prelude.{◌≡◌, true, false, [], ◌∷◌, Some, refl}
use Rattle.laws_line.specs.WorkedWords.{ReceiveReady, ReceiveNotReady, Sabme, Ua, Call, exchanged, read_by, reading, header_of, control_of, unnumbered_of, supervisory_of, state_after, waiting_left, TeiAssigned, AwaitingEstablishment, Established, LinkT200 as T200, received, undefined, link_overlong as overlong, command, response, distance_of, named, seq, link_fresh as fresh, Line, fresh_line}
use Rattle.laws_line.specs.WorkedWords.{has_tei, link_at, terms}
use Rattle.laws_line.specs.WorkedWords.{after, Establish, Data, Assign, SetBusy, Deactivate}
use Rattle.model_teis.specs.network.Events as teis
use Rattle.laws_line.specs.Worked.{usual, both_up, heard}
use Rattle.laws_line.specs.WorkedServed.{asked, taken_from}

-- RR with P=1 comes for the call control link of TEI 64: behind the UA to its SABME one answer waits, with F=1.
poll_answered : (link_at 0 (heard (0x00 ∷ 0x81 ∷ 0x01 ∷ 0x01 ∷ []) both_up)).waiting
    ≡ response (Ua true) ∷ response (ReceiveReady (seq 0) true) ∷ []
unfolding seq distance_of named exchanged read_by reading header_of control_of unnumbered_of supervisory_of teis.course teis.refusal
poll_answered = refl

-- An establishment is granted: SABME waits, and UA is awaited.
abbrev establishing : Line
establishing = asked (Establish Call 64) (asked (Assign 64) (fresh_line usual))

establishment_waits : (link_at 0 establishing).waiting ≡ command (Sabme true) ∷ []
unfolding teis.course teis.refusal
establishment_waits = refl

establishment_awaited : (link_at 0 establishing).state ≡ AwaitingEstablishment
unfolding teis.course teis.refusal
establishment_awaited = refl

establishment_timed : (link_at 0 establishing).running ≡ Some T200
unfolding teis.course teis.refusal
establishment_timed = refl

-- Own busy begins: RNR says so.
busy_told : (link_at 0 (asked (SetBusy Call 64) both_up)).waiting ≡ response (Ua true) ∷ response (ReceiveNotReady (seq 0) false) ∷ []
unfolding seq exchanged read_by reading header_of control_of unnumbered_of supervisory_of teis.course teis.refusal
busy_told = refl

-- An I-frame is taken behind both UAs, and V(S) counts it; REJ with N(R) 0 takes V(S) back to 0.
abbrev one_sent : Line
one_sent = taken_from 1 (asked (Data Call 64 (0x41 ∷ [])) (taken_from 2 both_up))

sent_counted : (link_at 0 one_sent).s ≡ 1
unfolding after seq exchanged read_by reading header_of control_of unnumbered_of teis.course teis.refusal taken_from
sent_counted = refl

sent_again : (link_at 0 (heard (0x02 ∷ 0x81 ∷ 0x09 ∷ 0x00 ∷ []) one_sent)).s ≡ 0
unfolding after seq distance_of named exchanged read_by reading header_of control_of unnumbered_of supervisory_of teis.course teis.refusal taken_from
sent_again = refl

-- The line is down: the link of call control is as one that begins, though contents are outstanding; that of packet mode
-- stays up, and the TEI stays.
given_up : link_at 0 (asked (Deactivate Call 64) one_sent) ≡ fresh
unfolding after seq exchanged read_by reading header_of control_of unnumbered_of teis.course teis.refusal taken_from
given_up = refl

other_stays : (link_at 1 (asked (Deactivate Call 64) one_sent)).state ≡ Established
unfolding after seq exchanged read_by reading header_of control_of unnumbered_of teis.course teis.refusal taken_from
other_stays = refl

tei_stays : has_tei 64 (asked (Deactivate Call 64) one_sent) ≡ true
unfolding after seq exchanged read_by reading header_of control_of unnumbered_of teis.course teis.refusal taken_from
tei_stays = refl

-- A frame with an undefined control field comes for the call control link of TEI 64: by the tables, and on the line, SABME
-- waits behind UA, and UA is awaited. An I-frame that is too long moves no link in state 4.
undefined_waits : waiting_left (terms usual Call 64) (received undefined) (link_at 0 both_up) AwaitingEstablishment
    ≡ response (Ua true) ∷ command (Sabme true) ∷ []
unfolding seq distance_of named exchanged read_by reading header_of control_of unnumbered_of supervisory_of teis.course teis.refusal
undefined_waits = refl

undefined_moves : state_after (terms usual Call 64) (received undefined) (link_at 0 both_up) ≡ AwaitingEstablishment
unfolding seq distance_of named exchanged read_by reading header_of control_of unnumbered_of supervisory_of teis.course teis.refusal
undefined_moves = refl

undefined_heard : (link_at 0 (heard (0x00 ∷ 0x81 ∷ 0x2F ∷ []) both_up)).waiting ≡ response (Ua true) ∷ command (Sabme true) ∷ []
unfolding seq distance_of named exchanged read_by reading header_of control_of unnumbered_of supervisory_of teis.course teis.refusal
undefined_heard = refl

none_moved : state_after (terms usual Call 64) (received overlong) (link_at 0 (asked (Assign 64) (fresh_line usual))) ≡ TeiAssigned
unfolding teis.course teis.refusal
none_moved = refl
