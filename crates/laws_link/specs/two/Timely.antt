-- A T200 that is long enough: it expires in state 8 only where no enquiry of this end is open (Q.921 clause 5.6.7).
use Rattle.std.specs.Prelude.{◌≡◌, Bool, true, false, ◌&&◌, not, All}
use Rattle.lapd_frame.specs.declared.controls.Control.{Control}
use Rattle.lapd_frame.specs.declared.controls.Control.TheVariants.{ReceiveReady, ReceiveNotReady, Reject}
use Rattle.model_link.specs.declared.states.State.TheVariants.{TimerRecovery}
use Rattle.model_link.specs.declared.timers.LinkTimer.{LinkTimer}
use Rattle.model_link.specs.Machine.{is_running}
use Rattle.model_link.specs.TwoEnds.{Endpoint, Step, requests, expires, sends, receives, loses}
use Rattle.laws_link.specs.two.Ahead.{IsNotRelease, CanRepeat}

-- The P or F bit of a supervisory frame.
abbrev pub supervisory_bit : Control → Bool
supervisory_bit (ReceiveReady nr pf) = pf
supervisory_bit (ReceiveNotReady nr pf) = pf
supervisory_bit (Reject nr pf) = pf
supervisory_bit other = false

-- A supervisory command with P=1 is an enquiry, and a supervisory response with F=1 an answer.
abbrev pub is_enquiry : Bool → Control → Bool
is_enquiry command control = command && supervisory_bit control

abbrev pub is_answer : Bool → Control → Bool
is_answer command control = not command && supervisory_bit control

-- None waits, and none is on its way.
pub record HasNo (asked : Bool → Control → Bool) (n : Endpoint) : Type 0 where
  pub waiting : All (λ f. asked f.command f.control ≡ false) n.link.waiting
  pub way : All (λ f. asked f.address.command f.control ≡ false) n.way

-- No enquiry of the first end, and no answer of the second.
pub record IsNoneOpen (n m : Endpoint) : Type 0 where
  pub enquiries : HasNo is_enquiry n
  pub answers : HasNo is_answer m

abbrev pub IsTimely : LinkTimer → Endpoint → Endpoint → Type 0
IsTimely timer n m = n.link.state ≡ TimerRecovery → is_running timer n.link ≡ true → IsNoneOpen n m

-- Layer 3 does not release the link; a timer expires in time, and an enquiry can be repeated.
abbrev pub IsTimelyStep : Step → Endpoint → Endpoint → Type 0
IsTimelyStep (requests request full) n m = IsNotRelease request
IsTimelyStep (expires timer) n m = CanRepeat timer n × IsTimely timer n m
IsTimelyStep sends n m = Unit {0}
IsTimelyStep receives n m = Unit {0}
IsTimelyStep loses n m = Unit {0}
