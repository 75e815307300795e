-- A T200 that is long enough in a call in which frames are lost (Q.921 clauses 5.5.1.3, 5.6.7 and 5.9.1).
use Rattle.std.specs.Prelude.{◌≡◌, ◌≢◌, ℕ, zero, suc, ◌==◌, Bool, true, false, ◌&&◌, ◌||◌, not, List, [], ◌∷◌, flat_map, All, Option, None, Some}
use Rattle.std.specs.List.{list_any}
use Rattle.lapd_frame.specs.declared.controls.Control.{Control}
use Rattle.lapd_frame.specs.declared.controls.Control.TheVariants.{Information, ReceiveReady, ReceiveNotReady, Reject, Sabme, Disc, Ui, Ua, Dm, Frmr, Xid}
use Rattle.lapd_frame.specs.declared.services.Service.{Service}
use Rattle.lapd_frame.specs.declared.timers.Timer.TheVariants.{T200}
use Rattle.lapd_frame.specs.Grammar.{Parts}
use Rattle.model_line.specs.Event.{expiry, next}
use Rattle.model_line.specs.Line.{state_of}
use Rattle.laws_wire.specs.Wire.{Endpoint, answered, told_by, frames_by, happens, Wire, Step, expires, loses, turned, StepAt, at_near, at_far, doing}
use Rattle.laws_wire.specs.Losing.{heard_in, TellNoError}
use Rattle.laws_wire.specs.Facing.{line_of, read_as}

-- The P or F bit of a frame. A command with P=1 waits for its answer, which is a response with F=1.
abbrev pub bit_of : Control → Bool
bit_of (Information ns nr p) = p
bit_of (ReceiveReady nr pf) = pf
bit_of (ReceiveNotReady nr pf) = pf
bit_of (Reject nr pf) = pf
bit_of (Sabme p) = p
bit_of (Disc p) = p
bit_of (Ui p) = p
bit_of (Ua f) = f
bit_of (Dm f) = f
bit_of (Frmr f) = f
bit_of (Xid pf) = pf

abbrev pub is_poll : Bool → Control → Bool
is_poll command control = command && bit_of control

abbrev pub is_final : Bool → Control → Bool
is_final command control = not command && bit_of control

-- So many next frames of an end go on its way.
unfoldable pub giving : ℕ → Endpoint → Endpoint
giving zero s = s
giving (suc k) s = giving k (happens next s)

-- No frame of a kind is on its way, or waits to go: however often the end is called for its next frame, none goes.
abbrev pub NoneGoes : (Bool → Control → Bool) → Endpoint → Type 0
NoneGoes of s = (k : ℕ) → All (λ (f : Parts). of f.address.command f.control ≡ false) (flat_map (read_as s.card.config) (giving k s).way)

-- No answer is to come for the first end: no command of it with P=1, and no response of the other with F=1, waits to go
-- or is on its way. A lost one is not.
pub record IsNoneOpen (s u : Endpoint) : Type 0 where
  pub commands : NoneGoes is_poll s
  pub responses : NoneGoes is_final u

-- The states in which T200 runs for a command that waits for its answer: 5 for SABME, 6 for DISC, 8 for an enquiry.
abbrev pub awaits_in : Option ℕ → Bool
awaits_in None = false
awaits_in (Some state) = state == 5 || state == 6 || state == 8

abbrev pub awaits_reply : Service → ℕ → Endpoint → Bool
awaits_reply service tei s = awaits_in (state_of service tei (line_of s))

-- In state 7 T200 expires at any time. In these it expires only where no answer is to come,
abbrev pub IsLongEnough : Service → ℕ → Endpoint → Endpoint → Type 0
IsLongEnough service tei s u = awaits_reply service tei s ≡ true → IsNoneOpen s u

-- and where N200 is not used up: no error is told as it expires.
abbrev pub MayRepeat : Service → ℕ → Endpoint → Type 0
MayRepeat service tei s = TellNoError (told_by (answered (expiry (T200 service tei)) s))

-- T203 may expire at any time.
abbrev pub IsTimelyOf : Step → Wire → Type 0
IsTimelyOf (expires (T200 service tei)) w = IsLongEnough service tei w.near w.far × MayRepeat service tei w.near
IsTimelyOf other w = Unit {0}

-- And UA is not lost: before the other has heard that the link is established the end that was called loses no frame,
-- and no timer expires there while UA is its next frame.
abbrev pub gives_one : (Control → Bool) → Endpoint → Bool
gives_one of s = list_any (λ f. of f.control) (flat_map (read_as s.card.config) (frames_by (answered next s)))

abbrev pub is_ua : Control → Bool
is_ua (Ua f) = true
is_ua other = false

abbrev pub IsSpared : Step → Wire → Type 0
IsSpared loses w = heard_in w.near ≢ []
IsSpared (expires timer) w = heard_in w.near ≡ [] → gives_one is_ua w.far ≡ false
IsSpared other w = Unit {0}

abbrev pub IsTimely : StepAt → Wire → Type 0
IsTimely (at_near act) w = IsTimelyOf act w
IsTimely (at_far act) w = IsTimelyOf act (turned w) × IsSpared act w

-- So it is at each step, before it.
unfoldable pub StayTimely : List StepAt → Wire → Type 0
StayTimely [] w = Unit {0}
StayTimely (d ∷ ds) w = IsTimely d w × StayTimely ds (doing d w)
