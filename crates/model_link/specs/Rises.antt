-- How many frames a link may still send, and by how much each event raises that.
use Rattle.std.specs.Prelude.{ℕ, ◌+◌, ◌≤◌, ◌&&◌, Bool, false, List, [], ◌∷◌, length, sum_by, Option, None, Some, is_some, if◌then◌else◌}
use Rattle.lapd_seq.specs.declared.numbers.Seq.{Seq}
use Rattle.lapd_seq.specs.Circle.{named}
use Rattle.lapd_frame.specs.declared.addresses.Side.TheVariants.{Network}
use Rattle.lapd_frame.specs.declared.controls.Control.{Control}
use Rattle.lapd_frame.specs.declared.controls.Control.TheVariants.{Reject}
use Rattle.lapd_frame.specs.Grammar.{spelling}
use Rattle.model_link.specs.declared.states.State.{State}
use Rattle.model_link.specs.declared.states.State.TheVariants.{TimerRecovery}
use Rattle.model_link.specs.declared.terms.Terms.{Terms}
use Rattle.model_link.specs.Link.{Link, unsent, is_multiple_frame, frame_of}
use Rattle.model_link.specs.Events.{frame, Data, Event, received, expired, requested, offer, cleared}
use Rattle.model_link.specs.Requests.{refusal}
use Rattle.model_link.specs.Machine.{is_running, course, after}

-- Octets of the control frames that wait.
abbrev pub held : Terms → Link → ℕ
held t l = sum_by (λ f. length (spelling Network (frame_of t f))) l.waiting

-- What a link may send without anything else happening: the frames that wait, the contents that are unsent, the
-- acknowledgement that is owed, and in state 8 the window, which the answer to the enquiry may bring back.
abbrev pub window_back : State → ℕ → ℕ
window_back TimerRecovery k = k
window_back other k = 0

abbrev pub may_send : Terms → Link → ℕ
may_send t l = length l.waiting + unsent l + (if l.pending then 1 else 0) + window_back l.state t.k

-- How many frames an event sends.
abbrev pub sent : Terms → Event → Link → ℕ
sent t e l = if is_some (course t e l).sent then 1 else 0

-- The N(R) of an REJ.
abbrev pub reject_number : Control → Option Seq
reject_number (Reject nr pf) = Some nr
reject_number other = None

-- An REJ with a valid N(R) in state 7 or 8.
abbrev pub is_valid_reject : Option Seq → Link → Bool
is_valid_reject None l = false
is_valid_reject (Some nr) l = is_multiple_frame l.state && is_some (named l.a l.s nr)

abbrev pub rejects : Event → Link → Bool
rejects (received (frame f)) l = is_valid_reject (reject_number f.control) l
rejects other l = false

-- The price of an event: by how much the frames sent and those that may be sent can rise.
abbrev pub price : Terms → Event → Link → ℕ
price t (received r) l = 2 + (if rejects (received r) l then t.k else 0)
price t (expired timer) l = if is_running timer l then t.k + 1 else 0
price t (requested request pool_is_full) l = if is_some (refusal t l pool_is_full request) then 0 else 1
price t offer l = 0
price t cleared l = 0

-- What an event sends, and what may be sent after it, is at most what might be sent before it, and its price.
abbrev pub RisesByEvent : Terms → Event → Link → Type 0
RisesByEvent t e l = sent t e l + may_send t (after t e l) ≤ may_send t l + price t e l

-- By how many slots of the shelf an event lets the link's contents grow: contents that are not refused take one.
abbrev pub grows : Terms → Event → Link → ℕ
grows t (requested (Data octets) pool_is_full) l = if is_some (refusal t l pool_is_full (Data octets)) then 0 else 1
grows t other l = 0

-- The same of a list of events.
unfoldable pub sent_in_all : Terms → List Event → Link → ℕ
sent_in_all t [] l = 0
sent_in_all t (e ∷ es) l = sent t e l + sent_in_all t es (after t e l)

unfoldable pub price_of_all : Terms → List Event → Link → ℕ
price_of_all t [] l = 0
price_of_all t (e ∷ es) l = price t e l + price_of_all t es (after t e l)
