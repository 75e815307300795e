-- Worked values: I-frames come and go.
use Rattle.std.specs.Prelude.{◌≡◌, ◌+◌, true, false, [], ◌∷◌, length, replicate, None, Some, sum_by, refl}
use Rattle.laws_link.specs.WorkedWords.{seq, distance_of, named, Call, Start, Stop, WrongState, TooLong, QueueFull, PoolFull, supervisory_of, unnumbered_of, control_of, header_of, reading, AwaitingEstablishment, T200, T203, Link, fresh, queue_of, received, overlong, Release, Data, SetBusy, ClearBusy, expired, offer, refusal, after, after_all, told, held, price_of_all, usual_terms}
use Rattle.laws_link.specs.WorkedWords.{with_k_and_queue, frame_comes, ask, out, notes, lost, sabme, up}
use Rattle.lapd_frame.specs.declared.notes.Note.TheVariants as tell
use Rattle.lapd_frame.specs.declared.notes.ErrorCode.TheVariants as code
use Rattle.lapd_frame.specs.declared.timers.Timer.TheVariants as timer

-- The same I-frame twice: one delivery, then REJ. The acknowledgement that was owed goes with it.
twice : notes usual_terms (frame_comes (0x00 ∷ 0x81 ∷ 0x00 ∷ 0x00 ∷ 0x41 ∷ []) ∷ frame_comes (0x00 ∷ 0x81 ∷ 0x00 ∷ 0x00 ∷ 0x41 ∷ []) ∷ []) up
    ≡ tell.Data Call 64 ∷ []
unfolding seq distance_of named reading header_of control_of unnumbered_of supervisory_of after_all out notes lost price_of_all
twice = refl

twice_delivered : told usual_terms (frame_comes (0x00 ∷ 0x81 ∷ 0x00 ∷ 0x00 ∷ 0x41 ∷ [])) up
    ≡ record { notes = tell.Data Call 64 ∷ []; delivered = Some (0x41 ∷ []); unit = None; orders = Start (timer.T203 Call 64) ∷ []; lost = 0; given_up = 0; given_up_16 = 0; unserved = false }
unfolding seq distance_of named reading header_of control_of unnumbered_of supervisory_of after_all out notes lost price_of_all
twice_delivered = refl

twice_out : out usual_terms (frame_comes (0x00 ∷ 0x81 ∷ 0x00 ∷ 0x00 ∷ 0x41 ∷ []) ∷ frame_comes (0x00 ∷ 0x81 ∷ 0x00 ∷ 0x00 ∷ 0x41 ∷ []) ∷ offer ∷ offer ∷ offer ∷ []) up
    ≡ (0x00 ∷ 0x81 ∷ 0x09 ∷ 0x02 ∷ []) ∷ []
unfolding seq distance_of named reading header_of control_of unnumbered_of supervisory_of after_all out notes lost price_of_all
twice_out = refl

-- An RR response with an N(R) that names nothing sent: error J, SABME, state 5.
number_of_nothing : told usual_terms (frame_comes (0x02 ∷ 0x81 ∷ 0x01 ∷ 0x02 ∷ [])) up
    ≡ record { notes = tell.Error Call 64 code.J ∷ []; delivered = None; unit = None; orders = Start (timer.T200 Call 64) ∷ Stop (timer.T203 Call 64) ∷ []; lost = 0; given_up = 0; given_up_16 = 0; unserved = false }
unfolding seq distance_of named reading header_of control_of unnumbered_of supervisory_of after_all out notes lost price_of_all
number_of_nothing = refl

number_of_nothing_out : out usual_terms (frame_comes (0x02 ∷ 0x81 ∷ 0x01 ∷ 0x02 ∷ []) ∷ offer ∷ offer ∷ []) up
    ≡ (0x02 ∷ 0x81 ∷ 0x7F ∷ []) ∷ []
unfolding seq distance_of named reading header_of control_of unnumbered_of supervisory_of after_all out notes lost price_of_all
number_of_nothing_out = refl

number_of_nothing_state : (after usual_terms (frame_comes (0x02 ∷ 0x81 ∷ 0x01 ∷ 0x02 ∷ [])) up).state
    ≡ AwaitingEstablishment
unfolding seq distance_of named reading header_of control_of unnumbered_of supervisory_of after_all out notes lost price_of_all
number_of_nothing_state = refl

-- With k 1 and room for two contents, the third is refused; UA waits, and nothing changes.
abbrev small : Link
small = after_all (with_k_and_queue 1 2) (sabme ∷ ask (Data (1 ∷ [])) ∷ ask (Data (2 ∷ [])) ∷ []) fresh

queue_full : refusal (with_k_and_queue 1 2) small false (Data (3 ∷ []))
    ≡ Some QueueFull
unfolding seq distance_of named reading header_of control_of unnumbered_of supervisory_of after_all out notes lost price_of_all
queue_full = refl

queue_full_unchanged : after (with_k_and_queue 1 2) (ask (Data (3 ∷ []))) small
    ≡ small
unfolding seq distance_of named reading header_of control_of unnumbered_of supervisory_of after_all out notes lost price_of_all
queue_full_unchanged = refl

queue_full_held : held usual_terms small + sum_by length (queue_of small)
    ≡ 5
unfolding seq distance_of named reading header_of control_of unnumbered_of supervisory_of after_all out notes lost price_of_all
queue_full_held = refl

-- A full shelf is told after a full queue, and contents over N201 before both.
pool_full : refusal usual_terms up true (Data (2 ∷ []))
    ≡ Some PoolFull
unfolding seq distance_of named reading header_of control_of unnumbered_of supervisory_of after_all out notes lost price_of_all
pool_full = refl

too_long : refusal (with_k_and_queue 1 2) small true (Data (replicate 261 0x55))
    ≡ Some TooLong
unfolding seq distance_of named reading header_of control_of unnumbered_of supervisory_of after_all out notes lost price_of_all
too_long = refl

queue_full_first : refusal (with_k_and_queue 1 2) small true (Data (3 ∷ []))
    ≡ Some QueueFull
unfolding seq distance_of named reading header_of control_of unnumbered_of supervisory_of after_all out notes lost price_of_all
queue_full_first = refl

-- Contents, and own busy, are for states 7 and 8.
data_in_4 : refusal usual_terms fresh false (Data (replicate 261 0x55))
    ≡ Some WrongState
unfolding seq distance_of named reading header_of control_of unnumbered_of supervisory_of after_all out notes lost price_of_all
data_in_4 = refl

-- 260 octets are delivered whole;
longest : (told usual_terms (frame_comes (0x00 ∷ 0x81 ∷ 0x00 ∷ 0x00 ∷ replicate 260 0x55)) up).delivered
    ≡ Some (replicate 260 0x55)
unfolding seq distance_of named reading header_of control_of unnumbered_of supervisory_of after_all out notes lost price_of_all
longest = refl

-- 261 are error O.
over_n201 : told usual_terms (frame_comes (0x00 ∷ 0x81 ∷ 0x00 ∷ 0x00 ∷ replicate 261 0x55)) up
    ≡ record { notes = tell.Error Call 64 code.O ∷ []; delivered = None; unit = None; orders = Start (timer.T200 Call 64) ∷ Stop (timer.T203 Call 64) ∷ []; lost = 0; given_up = 0; given_up_16 = 0; unserved = false }
unfolding seq distance_of named reading header_of control_of unnumbered_of supervisory_of after_all out notes lost price_of_all
over_n201 = refl

over_n201_out : out usual_terms ((frame_comes (0x00 ∷ 0x81 ∷ 0x00 ∷ 0x00 ∷ replicate 261 0x55)) ∷ offer ∷ offer ∷ []) up
    ≡ (0x02 ∷ 0x81 ∷ 0x7F ∷ []) ∷ []
unfolding seq distance_of named reading header_of control_of unnumbered_of supervisory_of after_all out notes lost price_of_all
over_n201_out = refl

-- So is an I-frame that was too long to keep.
overlong_told : told usual_terms (received overlong) up
    ≡ record { notes = tell.Error Call 64 code.O ∷ []; delivered = None; unit = None; orders = Start (timer.T200 Call 64) ∷ Stop (timer.T203 Call 64) ∷ []; lost = 0; given_up = 0; given_up_16 = 0; unserved = false }
unfolding seq distance_of named reading header_of control_of unnumbered_of supervisory_of after_all out notes lost price_of_all
overlong_told = refl

-- Own busy: RNR is sent, and contents are dropped; P is answered.
own_busy : out usual_terms (ask SetBusy ∷ frame_comes (0x00 ∷ 0x81 ∷ 0x00 ∷ 0x01 ∷ 0x41 ∷ []) ∷ offer ∷ offer ∷ offer ∷ []) up
    ≡ (0x00 ∷ 0x81 ∷ 0x05 ∷ 0x00 ∷ []) ∷ (0x00 ∷ 0x81 ∷ 0x05 ∷ 0x01 ∷ []) ∷ []
unfolding seq distance_of named reading header_of control_of unnumbered_of supervisory_of after_all out notes lost price_of_all
own_busy = refl

own_busy_notes : notes usual_terms (ask SetBusy ∷ frame_comes (0x00 ∷ 0x81 ∷ 0x00 ∷ 0x01 ∷ 0x41 ∷ []) ∷ []) up
    ≡ []
unfolding seq distance_of named reading header_of control_of unnumbered_of supervisory_of after_all out notes lost price_of_all
own_busy_notes = refl

own_busy_ends : out usual_terms (ask SetBusy ∷ offer ∷ ask SetBusy ∷ ask ClearBusy ∷ ask ClearBusy ∷ offer ∷ offer ∷ []) up
    ≡ (0x00 ∷ 0x81 ∷ 0x05 ∷ 0x00 ∷ []) ∷ (0x00 ∷ 0x81 ∷ 0x01 ∷ 0x00 ∷ []) ∷ []
unfolding seq distance_of named reading header_of control_of unnumbered_of supervisory_of after_all out notes lost price_of_all
own_busy_ends = refl

-- T203, then T200 four times: four enquiries, then error I and SABME, state 5.
enquired : out usual_terms (expired T203 ∷ offer ∷ expired T200 ∷ offer ∷ expired T200 ∷ offer ∷ expired T200 ∷ offer ∷ expired T200 ∷ offer ∷ []) up
    ≡ (0x02 ∷ 0x81 ∷ 0x01 ∷ 0x01 ∷ []) ∷ (0x02 ∷ 0x81 ∷ 0x01 ∷ 0x01 ∷ []) ∷ (0x02 ∷ 0x81 ∷ 0x01 ∷ 0x01 ∷ []) ∷ (0x02 ∷ 0x81 ∷ 0x01 ∷ 0x01 ∷ []) ∷ (0x02 ∷ 0x81 ∷ 0x7F ∷ []) ∷ []
unfolding seq distance_of named reading header_of control_of unnumbered_of supervisory_of after_all out notes lost price_of_all
enquired = refl

enquired_notes : notes usual_terms (expired T203 ∷ expired T200 ∷ expired T200 ∷ expired T200 ∷ expired T200 ∷ []) up
    ≡ tell.Error Call 64 code.I ∷ []
unfolding seq distance_of named reading header_of control_of unnumbered_of supervisory_of after_all out notes lost price_of_all
enquired_notes = refl

enquired_orders : told usual_terms (expired T203) up
    ≡ record { notes = []; delivered = None; unit = None; orders = Start (timer.T200 Call 64) ∷ Stop (timer.T203 Call 64) ∷ []; lost = 0; given_up = 0; given_up_16 = 0; unserved = false }
unfolding seq distance_of named reading header_of control_of unnumbered_of supervisory_of after_all out notes lost price_of_all
enquired_orders = refl

enquired_state : (after_all usual_terms (expired T203 ∷ expired T200 ∷ expired T200 ∷ expired T200 ∷ expired T200 ∷ []) up).state
    ≡ AwaitingEstablishment
unfolding seq distance_of named reading header_of control_of unnumbered_of supervisory_of after_all out notes lost price_of_all
enquired_state = refl

-- A timer that does not run does not expire.
no_such_timer : after usual_terms (expired T200) up
    ≡ up
unfolding seq distance_of named reading header_of control_of unnumbered_of supervisory_of after_all out notes lost price_of_all
no_such_timer = refl

-- An acknowledgement that was owed at a Release is not sent.
released_before_acknowledging : out usual_terms (frame_comes (0x00 ∷ 0x81 ∷ 0x00 ∷ 0x00 ∷ 0x41 ∷ []) ∷ ask Release ∷ offer ∷ offer ∷ []) up
    ≡ (0x02 ∷ 0x81 ∷ 0x53 ∷ []) ∷ []
unfolding seq distance_of named reading header_of control_of unnumbered_of supervisory_of after_all out notes lost price_of_all
released_before_acknowledging = refl

-- UI and XID are told in every state.
unit_data : told usual_terms (frame_comes (0x00 ∷ 0x81 ∷ 0x03 ∷ 0xCB ∷ [])) fresh
    ≡ record { notes = tell.Unit Call 64 ∷ []; delivered = None; unit = Some (0xCB ∷ []); orders = []; lost = 0; given_up = 0; given_up_16 = 0; unserved = false }
unfolding seq distance_of named reading header_of control_of unnumbered_of supervisory_of after_all out notes lost price_of_all
unit_data = refl

identification : told usual_terms (frame_comes (0x00 ∷ 0x81 ∷ 0xAF ∷ 0x01 ∷ [])) up
    ≡ record { notes = tell.Xid Call 64 ∷ []; delivered = None; unit = None; orders = []; lost = 0; given_up = 0; given_up_16 = 0; unserved = false }
unfolding seq distance_of named reading header_of control_of unnumbered_of supervisory_of after_all out notes lost price_of_all
identification = refl

unit_data_over_n201 : told usual_terms (frame_comes (0x00 ∷ 0x81 ∷ 0x03 ∷ replicate 261 0x55)) up
    ≡ record { notes = []; delivered = None; unit = None; orders = []; lost = 0; given_up = 0; given_up_16 = 0; unserved = true }
unfolding seq distance_of named reading header_of control_of unnumbered_of supervisory_of after_all out notes lost price_of_all
unit_data_over_n201 = refl
