-- T200 is long enough: it does not fall due while an answer is under way.
use Rattle.std.specs.Prelude.{◌≡◌, ◌≤◌, ◌<◌, ℕ, zero, suc, ◌+◌, ◌*◌, ◌/◌, ◌==◌, ◌||◌, Bool, true, List, [], ◌∷◌, ◌++◌, length, All, fold, Option, Some}
use Rattle.std.specs.List.{list_any}
use Rattle.std.specs.Option.{unwrap_or}
use Rattle.model_bits.specs.Stream as stream
use Rattle.lapd_clock.specs.Timer.{Lengths, AreInRange, T200}
use Rattle.lapd_clock.specs.Timers.{Expiry}
use Rattle.lapd_frame.specs.declared.controls.Control.{Control}
use Rattle.lapd_frame.specs.declared.services.Service.{Service}
use Rattle.lapd_frame.specs.Grammar.{Parts}
use Rattle.model_bits.specs.StuffingLaws.{AreOctets}
use Rattle.model_line.specs.Request.{Request, Establish, Release, SetBusy, ClearBusy, Data}
use Rattle.model_line.specs.declared.config.Config.{Config}
use Rattle.model_card.specs.Card.{state}
use Rattle.model_card.specs.ports.Port.{gained, pull}
use Rattle.model_timed.specs.Clock.{due, at_moment}
use Rattle.laws_wire.specs.Call.{CanCall}
use Rattle.laws_wire.specs.Facing.{read_as}
use Rattle.laws_wire.specs.Timely.{is_poll, is_final}
use Rattle.laws_order.specs.circuit.Beats.{longest}
use Rattle.laws_order.specs.circuit.Circuit.{Endpoint, port_of, happens}
use Rattle.laws_time.specs.circuit.Clocked.{TimedEndpoint, Clocked, Beat, asks, fall_due, gone, beat, after, endpoint}

-- So many octets: a control frame with a flag, stuffed; and in how many octet times an enquiry is answered at most: at either end the
-- longest frame, which has just begun, all control frames that may wait, and the way.
abbrev pub control_octets : ℕ
control_octets = 9

abbrev pub answered_in : Config → Config → ℕ → ℕ
answered_in c d way = 2 * (longest c.n201 + way) + control_octets * (c.control + d.control)

-- What stands at the two ends of a line, its rate and its way, and how long the timers run.
pub record Line : Type 0 where
  pub near : Config
  pub far : Config
  pub near_line : ℕ
  pub far_line : ℕ
  pub tei : ℕ
  pub service : Service
  pub lengths : Lengths
  pub far_lengths : Lengths
  pub rate : ℕ
  pub way : ℕ

abbrev pub begins : Line → Clocked
begins l = record { near = endpoint l.near l.near_line l.lengths l.way l.tei; far = endpoint l.far l.far_line l.far_lengths l.way l.tei; beats = 0 }

-- T200 of each end runs at least as long as an answer takes, and a millisecond more, as moments are whole.
abbrev pub RunsLong : Line → Lengths → Type 0
RunsLong l lengths = answered_in l.near l.far l.way + l.rate ≤ lengths.t200 * l.rate

pub record IsFit (l : Line) : Type 0 where
  pub call : CanCall l.near l.near_line l.far l.far_line l.tei
  pub some : 1 ≤ l.rate
  pub lengths : AreInRange l.lengths × AreInRange l.far_lengths
  pub t200 : RunsLong l l.lengths × RunsLong l l.far_lengths

-- Layer 3 of each end asks for anything of the link except unit data and deactivation; data are octets.
abbrev pub IsOfLink : Service → ℕ → Request → Type 0
IsOfLink service tei (Establish s t) = (s ≡ service) × (t ≡ tei)
IsOfLink service tei (Release s t) = (s ≡ service) × (t ≡ tei)
IsOfLink service tei (SetBusy s t) = (s ≡ service) × (t ≡ tei)
IsOfLink service tei (ClearBusy s t) = (s ≡ service) × (t ≡ tei)
IsOfLink service tei (Data s t contents) = (s ≡ service) × (t ≡ tei) × AreOctets contents
IsOfLink service tei other = ⊥

abbrev pub IsTalk : Line → Beat → Type 0
IsTalk l b = All (IsOfLink l.service l.tei) b.near_asks × All (IsOfLink l.service l.tei) b.far_asks

-- Noise makes no frame: one that stands in the octets that come, with the octet that comes now, stood in the octets that the other
-- end gave, with the octet in whose place this one comes.
abbrev pub IsFrame : stream.Event → Type 0
IsFrame (stream.dropped cause) = ⊥
IsFrame other = Unit {0}

abbrev pub IsClearAt : ℕ → Option ℕ → TimedEndpoint → TimedEndpoint → Type 0
IsClearAt n201 noise s other =
    (value : ℕ) (more : List ℕ) (e : stream.Event) → other.at.way ≡ value ∷ more →
    gained n201 (port_of s.at).received (unwrap_or noise value) ≡ Some e → IsFrame e →
    (before : List ℕ) × ((port_of other.at).given ≡ before ++ other.at.way) × (gained n201 before value ≡ Some e)

unfoldable pub AreClear : Line → List Beat → Clocked → Type 0
AreClear l [] w = Unit {0}
AreClear l (b ∷ bs) w =
    let v = gone l.rate b w in IsClearAt l.near.n201 b.near_noise v.near v.far × IsClearAt l.near.n201 b.far_noise v.far v.near
    × AreClear l bs (beat l.rate w b)

-- No frame of a kind is under way from an end: each that stands in what its pulls gave, and would give if it were only pulled, ended in
-- octets that the other end has received.
unfoldable pub pulling : ℕ → Endpoint → Endpoint
pulling zero s = s
pulling (suc n) s = pulling n (happens pull s)

abbrev pub is_of : (Bool → Control → Bool) → Config → List ℕ → Bool
is_of kind c octets = list_any (λ (f : Parts). kind f.address.command f.control) (read_as c octets)

abbrev pub NoneComes : (Bool → Control → Bool) → Line → Config → TimedEndpoint → TimedEndpoint → Type 0
NoneComes kind l c s other =
    (n : ℕ) (before : List ℕ) (value : ℕ) (more octets : List ℕ) → (port_of (pulling n s.at)).given ≡ before ++ value ∷ more →
    gained c.n201 before value ≡ Some (stream.frame octets) → is_of kind c octets ≡ true → l.way + length before < length (port_of other.at).received

-- In states 5, 6 and 8 T200 runs for the answer to a command with P=1. If it falls due there, neither such a command of this end is
-- under way, nor a response of the other with F=1.
abbrev pub is_waiting : ℕ → Bool
is_waiting n = n == 5 || (n == 6 || n == 8)

abbrev pub IsLongEnough : Line → Config → Config → TimedEndpoint → TimedEndpoint → Type 0
IsLongEnough l c d s other =
    (x : Expiry) (n : ℕ) → due s.clock ≡ Some x → x.timer ≡ T200 l.service l.tei → state s.at.line l.service l.tei s.at.card.card ≡ Some n →
    is_waiting n ≡ true → NoneComes is_poll l c s other × NoneComes is_final l d other s

-- After any beats, and at any time in the next one as timers fall due.
abbrev pub asked : ℕ → List Request → TimedEndpoint → TimedEndpoint
asked moment rs s = fold asks (record s { clock = at_moment moment s.clock }) rs

abbrev pub AnswersComeInTime : Type 0
AnswersComeInTime =
    (l : Line) (bs : List Beat) (b : Beat) (n : ℕ) → IsFit l → All (IsTalk l) (bs ++ b ∷ []) → AreClear l bs (begins l) →
    let w = after l.rate bs (begins l) in let moment = w.beats / l.rate in
    IsLongEnough l l.near l.far (fall_due n (asked moment b.near_asks w.near)) w.far
    × IsLongEnough l l.far l.near (fall_due n (asked moment b.far_asks w.far)) w.near
