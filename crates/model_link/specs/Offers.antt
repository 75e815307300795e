-- The next frame that a link gives to be sent.
use Rattle.std.specs.Prelude.{ℕ, ◌+◌, ◌-◌, Bool, true, false, not, ◌&&◌, nat_lt, List, [], ◌∷◌, length, slice_get, Option, None, Some}
use Rattle.lapd_seq.specs.Numbers.{seq}
use Rattle.lapd_frame.specs.declared.controls.Control.TheVariants.{Information, ReceiveReady}
use Rattle.model_link.specs.declared.states.State.{State}
use Rattle.model_link.specs.declared.states.State.TheVariants.{Established}
use Rattle.model_link.specs.declared.timers.LinkTimer.TheVariants.{T200}
use Rattle.model_link.specs.declared.frames.ControlFrame.{ControlFrame}
use Rattle.model_link.specs.declared.terms.Terms.{Terms}
use Rattle.model_link.specs.Link.{Link, outstanding}
use Rattle.model_link.specs.Counts.{with_information_sent, with_control_sent}
use Rattle.model_link.specs.Told.{runs}
use Rattle.model_link.specs.Steps.{Step, ◌then◌, nothing, depending_on, changed}
use Rattle.model_link.specs.Words.{pending_is, start, command, response}

-- A frame goes, with contents if it is an I-frame.
abbrev pub give : ControlFrame → Option (List ℕ) → Step
give f contents c = record c { sent = Some (record { frame = f; contents = contents }) }

-- The control frame that has waited longest.
abbrev pub with_waiting_rest : ControlFrame → List ControlFrame → Link → Link
with_waiting_rest f fs l = record l { waiting = fs; counts = with_control_sent f.control l.counts }

abbrev pub give_waiting : ControlFrame → List ControlFrame → Step
give_waiting f fs = give f None then changed (with_waiting_rest f fs)

-- An I-frame may be sent in state 7 while the terminal is not busy, fewer than k are outstanding, and contents are
-- unsent (clauses 5.6.1 and 5.6.5).
abbrev pub is_established : State → Bool
is_established Established = true
is_established other = false

abbrev pub may_send_information : Terms → Link → Bool
may_send_information t l =
    is_established l.state && not l.peer_busy && nat_lt (outstanding l) t.k && nat_lt l.s (length l.contents)

-- The I-frame with N(S) = V(S), N(R) = V(R) and P=0, and the first contents that are unsent.
abbrev pub next_information : Link → ControlFrame
next_information l = command (Information (seq l.s) (seq l.r) false)

abbrev pub first_unsent : Link → Option (List ℕ)
first_unsent l = slice_get l.contents l.s

abbrev pub give_information : Step
give_information c = give (next_information c.link) (first_unsent c.link) c

abbrev pub with_one_sent : Link → Link
with_one_sent l = record l { s = l.s + 1; again = l.again - 1; counts = with_information_sent l.again l.counts }

abbrev pub is_awaiting_acknowledgement : Link → Bool
is_awaiting_acknowledgement l = runs T200 l.running

-- clause 5.6.1; it carries the acknowledgement, and T200 is started unless it runs
abbrev pub send_information : Step
send_information =
    give_information then changed with_one_sent then pending_is false
    then depending_on is_awaiting_acknowledgement nothing (start T200)

-- The acknowledgement that is owed: RR with F=0 (clause 5.6.3.1).
abbrev pub is_pending : Link → Bool
is_pending l = l.pending

abbrev pub give_acknowledgement : Step
give_acknowledgement c = give (response (ReceiveReady (seq c.link.r) false)) None c

abbrev pub send_acknowledgement : Step
send_acknowledgement = give_acknowledgement then pending_is false

-- Control frames go first, then I-frames, then a mere acknowledgement (profile).
abbrev pub offer_among : Terms → List ControlFrame → Step
offer_among t (f ∷ fs) = give_waiting f fs
offer_among t [] =
    depending_on (may_send_information t) send_information (depending_on is_pending send_acknowledgement nothing)

abbrev pub offer_step : Terms → Step
offer_step t c = offer_among t c.link.waiting c
