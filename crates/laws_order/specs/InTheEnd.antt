-- A release is told in the end, at both ends, whatever waits, is on its way, or is lost.
use Rattle.std.specs.Prelude.{◌≡◌, ◌≤◌, ℕ, ◌+◌, Bool, true, false, List, [], ◌∷◌, length, filter, All, Some, is_some, ◌⊎◌}
use Rattle.std.specs.List.{list_any}
use Rattle.lapd_frame.specs.declared.notes.ErrorCode.TheVariants.{H}
use Rattle.lapd_frame.specs.declared.notes.Note.{Note}
use Rattle.lapd_frame.specs.declared.notes.Note.TheVariants.{ReleaseConfirm, Error}
use Rattle.lapd_frame.specs.declared.services.Service.{Service}
use Rattle.lapd_frame.specs.declared.timers.Timer.TheVariants.{T200}
use Rattle.model_line.specs.Event.{Event, expiry, request}
use Rattle.model_line.specs.Line.{tries}
use Rattle.laws_line.specs.Requests.{deactivates}
use Rattle.laws_trace.specs.Trace.{is_own}
use Rattle.laws_wire.specs.Wire.{requests, Wire}
use Rattle.laws_order.specs.AnySteps.{step, AnyStepAt, any_near, any_far, IsPossible, any_doing, any_doing_all, events_here, seen_near, seen_far}
use Rattle.laws_order.specs.Order.{ends_by, StaysEstablished, Past, known, state_here, FaceInStep}
use Rattle.laws_order.specs.Release.{news, BeginsNothing, IsNotCalled}

-- How often T200 of the link expired at the near end.
abbrev pub is_t200 : Service → ℕ → Event → Bool
is_t200 service tei (expiry (T200 of by)) = is_own service tei of by
is_t200 service tei other = false

abbrev pub t200_by : Service → ℕ → AnyStepAt → Wire → ℕ
t200_by service tei (any_near act) w = length (filter (is_t200 service tei) (events_here act w))
t200_by service tei (any_far act) w = 0

unfoldable pub t200s : Service → ℕ → List AnyStepAt → Wire → ℕ
t200s service tei [] w = 0
t200s service tei (h ∷ hs) w = t200_by service tei h w + t200s service tei hs (any_doing h w)

-- That the release is confirmed; with error H before it, where DISC was not answered N200 times again (Q.921 clauses 5.5.3.2 and
-- 5.5.3.3).
abbrev pub IsToldAtLast : Service → ℕ → List Note → Type 0
IsToldAtLast service tei ns = (ns ≡ ReleaseConfirm service tei ∷ []) ⊎ (ns ≡ Error service tei H ∷ ReleaseConfirm service tei ∷ [])

-- The end at which the release was granted is told once T200 expired there as often as DISC may go, if not before: from state 6 on, and as
-- long as nothing else begins, as `Release` has it.
abbrev pub ReleasesAreTold : Type 0
ReleasesAreTold =
    (service : Service) (tei : ℕ) (w : Wire) (hs : List AnyStepAt) → Past w.near → state_here service tei w.near ≡ Some 6 →
    All (IsPossible service tei w) hs → BeginsNothing service tei (seen_near hs w) → IsNotCalled service tei hs w →
    tries w.near.card.config ≤ t200s service tei hs w → IsToldAtLast service tei (news w.near.card.config.reading service tei (seen_near hs w))

-- The TEI stays on the line of the near end, and its link is not deactivated.
unfoldable pub StaysThere : Service → ℕ → List AnyStepAt → Wire → Type 0
StaysThere service tei [] w = is_some (state_here service tei w.near) ≡ true
StaysThere service tei (h ∷ hs) w = (is_some (state_here service tei w.near) ≡ true) × StaysThere service tei hs (any_doing h w)

abbrev pub IsNotDeactivated : Service → ℕ → AnyStepAt → Type 0
IsNotDeactivated service tei (any_near (step (requests r))) = deactivates service tei (request r) ≡ false
IsNotDeactivated service tei other = Unit {0}

abbrev pub KeepsLink : Service → ℕ → List AnyStepAt → Wire → Type 0
KeepsLink service tei hs w = StaysThere service tei hs w × All (IsNotDeactivated service tei) hs

-- And where it is told the confirm, and no error H, the other end, whose establishment lasted until then, was told behind the release
-- by a note that it is over or renewed, unless its layer 3 was granted a release itself: whatever happened at both since they faced each
-- other in step, and whatever was waiting or on its way as the release was granted.
abbrev pub BothAreTold : Type 0
BothAreTold =
    (service : Service) (tei : ℕ) (w : Wire) (p : Past w.near) (q : Past w.far) (before behind : List AnyStepAt) →
    FaceInStep service tei w (known service tei w.near p) (known service tei w.far q) → All (IsPossible service tei w) before →
    let v = any_doing_all before w in StaysEstablished service tei (seen_far before w) → state_here service tei v.near ≡ Some 6 →
    All (IsPossible service tei v) behind → KeepsLink service tei behind v → BeginsNothing service tei (seen_near behind v) →
    news v.near.card.config.reading service tei (seen_near behind v) ≡ ReleaseConfirm service tei ∷ [] → list_any (ends_by service tei) (seen_far behind v) ≡ true
