-- What events of Rattle are to the machine: those of lists that cards of octets, cards of frames and cards with timers of their own
-- run.
use Rattle.std.specs.Prelude.{◌≡◌, ℕ, ◌+◌, ◌<◌, ◌≤◌, List, length, take, Some, None}
use Rattle.std.specs.Borrow.{Bor}
use Rattle.lapd_frame.specs.declared.timers.Timer.{Timer}
use Rattle.model_bits.specs.Heard.{heard_of}
use Rattle.model_bits.specs.Stream.{frame, overlong, dropped}
use Rattle.model_bits.specs.declared.heard.Cause.{Cause}
use Rattle.model_bits.specs.declared.heard.Cause.TheVariants as cause
use Rattle.model_bits.specs.declared.heard.Heard.TheVariants as heard
use Rattle.model_line.specs.Came.{came}
use Rattle.model_line.specs.Event.{hears, expiry, request, next}
use Rattle.model_line.specs.Request.{request_of}
use Rattle.model_line.specs.declared.faults.Fault.{Fault}
use Rattle.model_line.specs.declared.faults.Fault.TheVariants as fault
use Rattle.model_line.specs.declared.requests.Request.{Request}
use Rattle.model_card.specs.Event.{Event, at}
use Rattle.model_card.specs.ports.Event as of_octets
use Rattle.model_card.specs.ports.Port as port
use Rattle.model_card.specs.declared.ports.events.Event.TheVariants as octets
use Rattle.model_timed.specs.Timed.{happens, time, falls_due}
use Rattle.laws_promises.specs.FrameDrive as of_frames
use Rattle.laws_promises.specs.TimedDrive.{frame_step, octet_step}
use Rattle.laws_promises.specs.declared.frame_events.FrameEvent as rust
use Rattle.laws_promises.specs.declared.frame_events.FrameEvent.TheVariants as frames
use Rattle.laws_promises.specs.declared.timed_events.TimedEvent as timed_rust
use Rattle.laws_promises.specs.declared.timed_events.TimedEvent.TheVariants as timed

-- At a card of frames, alone and with timers of its own, whose information fields have at most `n201` octets.
abbrev pub IsEvent : rust.FrameEvent → timed_rust.TimedEvent → (ℕ → Event) → Type 0
IsEvent e timed_e event = (n201 : ℕ) → (of_frames.event_of n201 e ≡ event n201) × (frame_step n201 timed_e ≡ happens (event n201))

-- A fault is heard as what is dropped for this cause.
abbrev pub IsHeardAs : Fault → Cause → Type 0
IsHeardAs fault cause = (line : ℕ) → IsEvent (frames.Failed line fault) (timed.Failed line fault) (λ n201. at line (hears (dropped cause)))

-- At a card of octets with timers of its own.
abbrev pub IsOctetEvent : timed_rust.TimedEvent → of_octets.Event → Type 0
IsOctetEvent e event = octet_step e ≡ happens event

pub record EventsMeanThis : Type 0 where
  pub octet : (line value : ℕ) → of_octets.event_of (octets.Octet line value) ≡ of_octets.at line (port.octet value)
  pub expire : (line : ℕ) (timer : Timer) → of_octets.event_of (octets.Expire line timer) ≡ of_octets.at line (port.expiry timer)
  pub ask : (line : ℕ) (r : Request) → of_octets.event_of (octets.Request line r) ≡ of_octets.at line (port.request (request_of r))
  pub pull : (line : ℕ) → of_octets.event_of (octets.Pull line) ≡ of_octets.at line port.pull
  -- A frame that comes is heard, unless it is too short; of one that is overlong the head.
  pub frame_comes : (line : ℕ) (octets : Bor (List ℕ)) → IsEvent (frames.Frame line octets) (timed.Frame line octets) (λ n201. at line (hears (came n201 octets.now)))
  pub whole : (n201 : ℕ) (octets : List ℕ) → 4 ≤ length octets → length octets ≤ n201 + 4 → came n201 octets ≡ frame octets
  pub too_long : (n201 : ℕ) (octets : List ℕ) → n201 + 4 < length octets → came n201 octets ≡ overlong (take 4 octets)
  pub too_short : (n201 : ℕ) (octets : List ℕ) → length octets < 3 → came n201 octets ≡ dropped cause.Short
  pub bad_check : IsHeardAs fault.Fcs cause.Fcs
  pub abort : IsHeardAs fault.Abort cause.Abort
  pub ragged : IsHeardAs fault.Ragged cause.Ragged
  pub short : IsHeardAs fault.Short cause.Short
  pub next_frame : (line : ℕ) → IsEvent (frames.Next line) (timed.Next line) (λ n201. at line next)
  pub ask_frames : (line : ℕ) (r : Request) → IsEvent (frames.Request line r) (timed.Request line r) (λ n201. at line (request (request_of r)))
  pub expire_frames : (n201 line : ℕ) (timer : Timer) → of_frames.event_of n201 (frames.Expire line timer) ≡ at line (expiry timer)
  -- With timers of its own.
  pub goes : (n201 moment : ℕ) → (frame_step n201 (timed.Time moment) ≡ time moment) × (octet_step (timed.Time moment) ≡ time moment)
  pub falls : (n201 : ℕ) → (frame_step n201 timed.FallDue ≡ falls_due) × (octet_step timed.FallDue ≡ falls_due)
  pub timed_octet : (line value : ℕ) → IsOctetEvent (timed.Octet line value) (of_octets.at line (port.octet value))
  pub timed_ask : (line : ℕ) (r : Request) → IsOctetEvent (timed.Request line r) (of_octets.at line (port.request (request_of r)))
  pub timed_pull : (line : ℕ) → IsOctetEvent (timed.Pull line) (of_octets.at line port.pull)
  -- What a card of octets tells as heard.
  pub heard_none : heard_of heard.Nothing ≡ None
  pub heard_drop : (why : Cause) → heard_of (heard.Dropped why) ≡ Some (dropped why)
  pub heard_frame : (octets : Bor (List ℕ)) → heard_of (heard.Frame octets) ≡ Some (frame octets.now)
  pub heard_head : (head : List ℕ) → heard_of (heard.Overlong head) ≡ Some (overlong head)
