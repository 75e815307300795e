-- How often T200 may expire: N200 counts its expiries (Q.921 clauses 5.5.1.3, 5.6.7 and 5.9.2).
use Rattle.std.specs.Prelude.{◌≡◌, ◌<◌, ℕ, ◌+◌, ◌==◌, Bool, true, false, List, [], ◌∷◌, All, Option, None, Some, if◌then◌else◌}
use Rattle.lapd_frame.specs.declared.services.Service.{Service}
use Rattle.lapd_frame.specs.declared.timers.Timer.TheVariants.{T200}
use Rattle.lapd_frame.specs.Readings.{by_reading}
use Rattle.model_line.specs.declared.config.Config.{Config}
use Rattle.model_line.specs.Line.{state_of, tries}
use Rattle.laws_wire.specs.Wire.{Endpoint, Wire, Step, expires, turned, StepAt, at_near, at_far, doing}
use Rattle.laws_wire.specs.Call.{calling, CanCall}
use Rattle.laws_wire.specs.Losing.{IsRoughTalk}
use Rattle.laws_wire.specs.Facing.{line_of}
use Rattle.laws_wire.specs.Timely.{awaits_reply, IsLongEnough, IsSpared, StayTimely}
use Rattle.laws_wire.specs.Answering.{IsFullTalk, StayPatient}

-- How often T200 expired at each end since its link was last in state 7, or since the call began. The expiry that led
-- out of state 7 is not among them in the profile; by annex B it is, as it began the first of N200 enquiries (clause 5.6.7).
pub record Counts : Type 0 where
  pub near : ℕ
  pub far : ℕ

abbrev pub is_7 : Option ℕ → Bool
is_7 None = false
is_7 (Some state) = state == 7

abbrev pub is_in_7 : Service → ℕ → Endpoint → Bool
is_in_7 service tei s = is_7 (state_of service tei (line_of s))

abbrev pub counted : Service → ℕ → Step → Endpoint → ℕ → ℕ
counted service tei (expires (T200 s t)) x k = if is_in_7 service tei x then by_reading x.card.config.reading 0 1 else k + 1
counted service tei other x k = if is_in_7 service tei x then 0 else k

abbrev pub counting : Service → ℕ → StepAt → Wire → Counts → Counts
counting service tei (at_near act) w k = record k { near = counted service tei act w.near k.near }
counting service tei (at_far act) w k = record k { far = counted service tei act w.far k.far }

-- T200 is long enough, and expires in states 5 and 8 only while the command may go once more: it went once, and so often again.
abbrev pub IsBelow : Service → ℕ → Endpoint → ℕ → Type 0
IsBelow service tei s k = awaits_reply service tei s ≡ true → k + 1 < tries s.card.config

abbrev pub IsCountedOf : Step → ℕ → Wire → Type 0
IsCountedOf (expires (T200 service tei)) k w = IsLongEnough service tei w.near w.far × IsBelow service tei w.near k
IsCountedOf other k w = Unit {0}

abbrev pub IsCounted : StepAt → Counts → Wire → Type 0
IsCounted (at_near act) k w = IsCountedOf act k.near w
IsCounted (at_far act) k w = IsCountedOf act k.far (turned w)

unfoldable pub StayCounted : Service → ℕ → List StepAt → Counts → Wire → Type 0
StayCounted service tei [] k w = Unit {0}
StayCounted service tei (d ∷ ds) k w = IsCounted d k w × StayCounted service tei ds (counting service tei d w k) (doing d w)

abbrev pub uncounted : Counts
uncounted = record { near = 0; far = 0 }

-- So N200 is not used up: no error is told as T200 expires, where UA is lost and an end is busy, too.
abbrev pub LossyExpiriesAreCounted : Type 0
LossyExpiriesAreCounted =
    (service : Service) (c d : Config) (line other tei : ℕ) (ds : List StepAt) → CanCall c line d other tei → All (IsFullTalk service tei) ds →
    let w = calling service tei c line d other in StayCounted service tei ds uncounted w → StayPatient ds w

-- And so it is where UA is not lost, as in `Timely`.
abbrev pub IsSparedIn : StepAt → Wire → Type 0
IsSparedIn (at_near act) w = Unit {0}
IsSparedIn (at_far act) w = IsSpared act w

unfoldable pub StaySpared : List StepAt → Wire → Type 0
StaySpared [] w = Unit {0}
StaySpared (d ∷ ds) w = IsSparedIn d w × StaySpared ds (doing d w)

abbrev pub ExpiriesAreCounted : Type 0
ExpiriesAreCounted =
    (service : Service) (c d : Config) (line other tei : ℕ) (ds : List StepAt) → CanCall c line d other tei → All (IsRoughTalk service tei) ds →
    let w = calling service tei c line d other in StayCounted service tei ds uncounted w → StaySpared ds w → StayTimely ds w
