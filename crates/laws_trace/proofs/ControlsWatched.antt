-- The control frames of a link that go are those that are due.
use Rattle.laws_trace.proofs.Vocabulary.{ℕ, ◌-◌, ◌==◌, ◌&&◌, ◌||◌, not, Bool, true, false, List, [], ◌∷◌, ◌++◌, length, take, flat_map, Option, Result, Ok, Err, nat_lt, if◌then◌else◌, option_map_or, seq, Information, ReceiveReady, ReceiveNotReady, Reject, Sabme, Disc, Ui, Ua, Dm, ReadFault, Service, Parts, reading, sapi_of, ControlFrame, Config, heard_side, as_response, as_command, lost_in}
use Rattle.laws_trace.proofs.Vocabulary.{Control, Moment, is_up, Seen, heard, trace_begun as begun, granted, seen_in, stream_frame, own_side}
use Rattle.laws_trace.proofs.DeliveriesWatched.{Standing}
use Rattle.laws_trace.proofs.States.{expired_of, one_more, is_state, state_before, state_after, differ}

-- What a frame of the link of a service with a TEI shows.
abbrev pub of_link : {X : Type 0} → Service → ℕ → (Bool → Control → List X) → Result Parts ReadFault → List X
of_link service tei by (Ok frame) =
    if frame.address.sapi == sapi_of service && frame.address.tei == tei then by frame.address.command frame.control else []
of_link service tei by (Err fault) = []

-- Each frame of a link that begins is a control frame, except I-frames and UI.
abbrev pub control_in : Bool → Control → List ControlFrame
control_in command (Information ns nr p) = []
control_in command (Ui p) = []
control_in command other = record { command = command; control = other } ∷ []

abbrev pub controls_at : Config → Service → ℕ → Seen → List ControlFrame
controls_at c service tei (begun octets) = of_link service tei control_in (reading (own_side c) octets)
controls_at c service tei other = []

-- A receipt is RNR while layer 3 is busy, and RR while it is not; its N(R) is the number of contents told of the link
-- since its numbers began, modulo 128 (Q.921 clauses 3.5.2.6, 3.6.6, 3.6.8 and 5.6.6).
abbrev pub receipt : Standing → Bool → Control
receipt now pf = if now.busy then ReceiveNotReady (seq now.told.count) pf else ReceiveReady (seq now.told.count) pf

abbrev pub polled : Standing → Bool → List ControlFrame
polled now p = if p then as_response (receipt now true) else []

-- In states 7 and 8 the first I-frame that is rejected is answered by REJ with F = P (clause 5.8.1).
abbrev pub to_information : Bool → Standing → Standing → List ControlFrame
to_information p was now = if now.rejected && not was.rejected then as_response (Reject (seq now.told.count) p) else polled now p

abbrev pub while_up : ℕ → List ControlFrame → List ControlFrame
while_up state frames = if is_up state then frames else []

-- What answers a frame, as the link stands before and behind it, by its state before, whose number `Card::state` tells.
-- An I-frame whose information is longer than N201 octets has no answer (clause 5.8.5).
abbrev pub answer_to : Standing → Standing → ℕ → Bool → Bool → Control → List ControlFrame
-- clauses 5.5.1.2, 5.5.5 and 5.7
answer_to was now state command too_long (Sabme p) = as_response (if state == 6 then Dm p else Ua p)
-- clauses 5.5.3.2, 5.5.4 and 5.5.5
answer_to was now state command too_long (Disc p) = as_response (if state == 4 || state == 5 then Dm p else Ua p)
-- clauses 5.6.2 to 5.6.5, 5.6.7 and 5.8.1
answer_to was now state command too_long (Information ns nr p) = if too_long then [] else while_up state (to_information p was now)
answer_to was now state command too_long (ReceiveReady nr p) = while_up state (polled now (command && p))
answer_to was now state command too_long (ReceiveNotReady nr p) = while_up state (polled now (command && p))
answer_to was now state command too_long (Reject nr p) = while_up state (polled now (command && p))
answer_to was now state command too_long other = []

-- Layer 3 comes to be busy in states 7 and 8, which RNR says, or is so no more, and RR says it (clause 5.6.6).
abbrev pub changed : Standing → Standing → List ControlFrame
changed was now = if (if was.busy then not now.busy else now.busy) then as_response (receipt now false) else []

abbrev pub answers_to_frame : Config → Service → ℕ → Standing → Standing → ℕ → Result Parts ReadFault → List ControlFrame
answers_to_frame c service tei was now state (Ok frame) =
    of_link service tei (λ command. answer_to was now state command (nat_lt c.n201 (length frame.info))) (Ok frame)
answers_to_frame c service tei was now state (Err fault) = []

abbrev pub answers_at : Config → Service → ℕ → Standing → Standing → ℕ → Seen → List ControlFrame
answers_at c service tei was now state (heard (stream_frame octets)) = answers_to_frame c service tei was now state (reading (heard_side c) octets)
answers_at c service tei was now state (granted r) = while_up state (changed was now)
answers_at c service tei was now state other = []

-- A state that awaits the answer to a command puts it, with P=1: SABME state 5, DISC state 6, and state 8 an enquiry
-- (clauses 5.5.1.1, 5.5.3.2 and 5.6.7); where the link comes to the state, and again where T200 expires and leaves it
-- there (clauses 5.5.1.3, 5.5.3.3, 5.6.7 and 5.10.3).
abbrev pub command_of : Standing → Option ℕ → List ControlFrame
command_of now state =
    if is_state 5 state then as_command (Sabme true)
    else if is_state 6 state then as_command (Disc true)
    else if is_state 8 state then as_command (receipt now true)
    else []

abbrev pub is_time : Service → ℕ → ℕ → Moment → Bool
is_time service tei number m =
    differ (state_before service tei number m) (state_after service tei number m)
    || (m.event.line == number && option_map_or one_more (expired_of service tei m.event.what) 0 == 1)

-- So these are due in a moment, an answer before a command, except the last of them that the answer counts as lost.
abbrev pub put_in : Config → Service → ℕ → ℕ → Standing → Standing → Moment → List ControlFrame
put_in c service tei number was now m =
    option_map_or (λ state. flat_map (answers_at c service tei was now state) (seen_in number m)) (state_before service tei number m) []
    ++ (if is_time service tei number m then command_of now (state_after service tei number m) else [])

abbrev pub due_in : Config → Service → ℕ → ℕ → Standing → Standing → Moment → List ControlFrame
due_in c service tei number was now m =
    let frames = put_in c service tei number was now m in take (length frames - lost_in m.answer) frames
