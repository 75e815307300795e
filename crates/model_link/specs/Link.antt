-- A data link: what it holds between two events (Q.921 clauses 3.5.2 and 5, annex B).
use Rattle.std.specs.Prelude.{ℕ, ◌-◌, ◌==◌, nat_lt, Bool, true, false, not, List, [], length, drop, Option, None}
use Rattle.lapd_frame.specs.declared.addresses.Address.{Address}
use Rattle.lapd_frame.specs.Grammar.{Parts}
use Rattle.lapd_frame.specs.Services.{sapi_of}
use Rattle.model_link.specs.declared.states.State.{State}
use Rattle.model_link.specs.declared.states.State.TheVariants.{TeiAssigned, AwaitingEstablishment, AwaitingRelease, Established, TimerRecovery}
use Rattle.model_link.specs.declared.timers.LinkTimer.{LinkTimer}
use Rattle.model_link.specs.declared.frames.ControlFrame.{ControlFrame}
use Rattle.model_link.specs.declared.terms.Terms.{Terms}
use Rattle.model_link.specs.declared.counts.LinkCounts.{LinkCounts}
use Rattle.model_link.specs.Counts.{none_counted}

-- The state's number (annex B).
abbrev pub state_number : State → ℕ
state_number TeiAssigned = 4
state_number AwaitingEstablishment = 5
state_number AwaitingRelease = 6
state_number Established = 7
state_number TimerRecovery = 8

-- A link. Its numbers never wrap: V(A), V(S) and V(R) are their remainders by 128.
pub record Link : Type 0 where
  pub state : State
  -- the contents that have numbers 0, 1, .. since V(S) was last set to zero, oldest first, sent or to be sent: those
  -- that were unsent and stayed when it was, and those that were accepted since; without those that were discarded
  pub contents : List (List ℕ)
  -- how many of them are acknowledged, and how many are sent
  pub a : ℕ
  pub s : ℕ
  -- how many I-frames were received in sequence
  pub r : ℕ
  -- how many of the contents from number s on were sent before, and go again (at most 127; the machine counts to 255)
  pub again : ℕ
  -- the terminal can take no I-frames, or this side can't (clauses 5.6.5 and 5.6.6)
  pub peer_busy : Bool
  pub own_busy : Bool
  -- REJ was sent, and the I-frame that it asks for has not come (clause 5.8.1)
  pub rejecting : Bool
  -- an acknowledgement is owed for I-frames received
  pub pending : Bool
  -- layer 3 asked for the establishment that is awaited
  pub asked : Bool
  -- layer 3 asked for the release while the establishment was awaited, and was granted it: it is to be carried out (annex B,
  -- state 5; by that reading alone)
  pub owed : Bool
  -- how often the command that waits for its answer was repeated: RC
  pub repeats : ℕ
  -- the timer that runs
  pub running : Option LinkTimer
  -- control frames that wait to be sent, oldest first
  pub waiting : List ControlFrame
  -- what was counted of it
  pub counts : LinkCounts

-- A link as it begins, when its TEI comes to the line (state 4).
abbrev pub fresh : Link
fresh = record {
  state = TeiAssigned;
  contents = [];
  a = 0;
  s = 0;
  r = 0;
  again = 0;
  peer_busy = false;
  own_busy = false;
  rejecting = false;
  pending = false;
  asked = false;
  owed = false;
  repeats = 0;
  running = None;
  waiting = [];
  counts = none_counted;
}

-- The contents that it still keeps: those from the first that is not acknowledged on. The first of them are
-- outstanding, the others not sent yet.
abbrev pub queue_of : Link → List (List ℕ)
queue_of l = drop l.a l.contents

abbrev pub outstanding : Link → ℕ
outstanding l = l.s - l.a

abbrev pub unsent : Link → ℕ
unsent l = length l.contents - l.s

-- The tests of the tables.
abbrev pub has_outstanding : Link → Bool
has_outstanding l = not (l.s == l.a)

abbrev pub is_asked : Link → Bool
is_asked l = l.asked

abbrev pub is_owed : Link → Bool
is_owed l = l.owed

abbrev pub is_peer_busy : Link → Bool
is_peer_busy l = l.peer_busy

abbrev pub is_own_busy : Link → Bool
is_own_busy l = l.own_busy

abbrev pub is_rejecting : Link → Bool
is_rejecting l = l.rejecting

-- How often SABME, DISC or the enquiry may be repeated, in the state of this number, which awaits its answer: N200 times (clauses
-- 5.5.1.3, 5.5.3.3, 5.6.7 and 5.9.2). `repeats_in` of `model_line` says it by the configuration.
abbrev pub most_repeats : Terms → ℕ → ℕ
most_repeats t state = t.n200

-- RC is at most this, in any state.
abbrev pub most_rc : Terms → ℕ
most_rc t = t.n200

-- RC < N200
abbrev pub may_repeat : Terms → Link → Bool
may_repeat t l = nat_lt l.repeats (most_repeats t (state_number l.state))

-- State 7 or 8, as a test of a state.
abbrev pub is_multiple_frame : State → Bool
is_multiple_frame Established = true
is_multiple_frame TimerRecovery = true
is_multiple_frame other = false

-- A control frame that waits, as the whole frame that the exchange sends.
abbrev pub address_at : Terms → Bool → Address
address_at t command = record { sapi = sapi_of t.service; command = command; tei = t.tei }

abbrev pub frame_of : Terms → ControlFrame → Parts
frame_of t f = record { address = address_at t f.command; control = f.control; info = [] }
