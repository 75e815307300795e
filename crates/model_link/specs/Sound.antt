-- What holds of every link between two events.
use Rattle.std.specs.Prelude.{◌≡◌, ℕ, ◌+◌, ◌≤◌, Bool, true, false, IsTrue, List, [], length, All, Option, IfSome, unwrap_or}
use Rattle.lapd_frame.specs.declared.addresses.Side.TheVariants.{Network}
use Rattle.lapd_frame.specs.declared.readings.Reading.TheVariants.{AnnexB}
use Rattle.lapd_frame.specs.declared.controls.Control.{Control}
use Rattle.lapd_frame.specs.declared.controls.Control.TheVariants.{Information}
use Rattle.lapd_frame.specs.Grammar.{IsFrame, spelling}
use Rattle.model_link.specs.declared.states.State.{State}
use Rattle.model_link.specs.declared.states.State.TheVariants.{TeiAssigned, AwaitingEstablishment, AwaitingRelease, Established, TimerRecovery}
use Rattle.model_link.specs.declared.frames.ControlFrame.{ControlFrame}
use Rattle.model_link.specs.declared.terms.Terms.{Terms}
use Rattle.model_link.specs.Link.{Link, queue_of, frame_of, most_rc}

-- The ranges of a link's parameters (clause 5.9; for the capacities the profile).
pub record IsInRange (t : Terms) : Type 0 where
  pub tei : t.tei ≤ 126
  pub k_low : 1 ≤ t.k
  pub k_high : t.k ≤ 127
  pub n201_low : 8 ≤ t.n201
  pub n201_high : t.n201 ≤ 260
  pub n200 : t.n200 ≤ 10
  pub queue_low : t.k ≤ t.queue
  pub queue_high : t.queue ≤ 127
  pub control_low : 2 ≤ t.control
  pub control_high : t.control ≤ 16

-- Nothing is queued in states 4 and 6, nor in state 5 where layer 3 asked for the establishment.
abbrev pub IsSettledIn : State → Link → Type 0
IsSettledIn TeiAssigned l = length l.contents ≡ l.a
IsSettledIn AwaitingEstablishment l = IsTrue l.asked → length l.contents ≡ l.a
IsSettledIn AwaitingRelease l = length l.contents ≡ l.a
IsSettledIn Established l = Unit {0}
IsSettledIn TimerRecovery l = Unit {0}

-- Whether a frame is an I-frame.
abbrev pub is_information : Control → Bool
is_information (Information ns nr p) = true
is_information other = false

-- A frame that waits is one of the exchange, has at most four octets, and is no I-frame.
pub record IsWaitingFrame (t : Terms) (f : ControlFrame) : Type 0 where
  pub is_frame : IsFrame (frame_of t f)
  pub octets : length (spelling Network (frame_of t f)) ≤ 4
  pub without_contents : is_information f.control ≡ false

-- A release is owed in state 5 alone, by annex B. Layer 3 did not ask for the establishment then, and nothing is queued.
pub record IsOwing (t : Terms) (l : Link) : Type 0 where
  pub state : l.state ≡ AwaitingEstablishment
  pub reading : t.reading ≡ AnnexB
  pub asked : l.asked ≡ false
  pub queue : length l.contents ≡ l.a

pub record IsSound (t : Terms) (l : Link) : Type 0 where
  -- V(A) is not beyond V(S), nor V(S) and what goes again beyond what was accepted; at most k are outstanding (clause 5.6.1)
  pub ordered : l.a ≤ l.s
  pub accepted : l.s ≤ length l.contents
  pub again : l.s + l.again ≤ length l.contents
  pub within : l.s ≤ l.a + t.k
  pub settled : IsSettledIn l.state l
  pub owed : IsTrue l.owed → IsOwing t l
  -- the queue and the control frames keep within their capacities
  pub queue : length (queue_of l) ≤ t.queue
  pub ring : length l.waiting ≤ t.control
  -- with own busy on no acknowledgement is owed, so that one that is owed is RR and never RNR (clauses 5.6.3.1 and
  -- 5.6.6)
  pub owes_nothing : IsTrue l.own_busy → l.pending ≡ false
  -- contents have at most N201 octets
  pub sizes : All (λ octets. length octets ≤ t.n201) l.contents
  -- what waits are frames
  pub frames : All (IsWaitingFrame t) l.waiting
  -- RC is at most N200 (clause 5.9.2)
  pub repeats : l.repeats ≤ most_rc t

-- What an offer gives is a frame of the exchange, of at most four octets and contents that fit.
pub record IsGiven (t : Terms) (f : ControlFrame) (contents : Option (List ℕ)) : Type 0 where
  pub head : IsFrame (frame_of t f)
  pub octets : length (spelling Network (frame_of t f)) ≤ 4
  pub size : IfSome contents (λ octets. length octets ≤ t.n201)
  pub whole : IsFrame (record (frame_of t f) { info = unwrap_or contents [] })
