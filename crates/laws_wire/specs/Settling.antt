-- How many turns there are at most in a call as `Answering` has it, where UA is lost and an end is busy, too; and that rest comes.
use Rattle.std.specs.Prelude.{◌≡◌, ◌≢◌, ℕ, ◌+◌, ◌*◌, ◌≤◌, Bool, true, false, ◌&&◌, ◌||◌, not, List, [], ◌∷◌, length, All, if◌then◌else◌}
use Rattle.lapd_frame.specs.declared.services.Service.{Service}
use Rattle.lapd_frame.specs.declared.timers.Timer.TheVariants.{T200}
use Rattle.model_line.specs.declared.config.Config.{Config}
use Rattle.model_line.specs.Event.{request}
use Rattle.model_line.specs.Line.{terms}
use Rattle.model_line.specs.Request.{Request, SetBusy, ClearBusy}
use Rattle.laws_line.specs.Share.{is_granted}
use Rattle.laws_wire.specs.Wire.{Endpoint, answered, Wire, Step, requests, expires, turned, StepAt, at_near, at_far, doing, doing_all, IsStill}
use Rattle.laws_wire.specs.Call.{calling, CanCall, confirmed}
use Rattle.laws_wire.specs.Losing.{heard_in}
use Rattle.laws_wire.specs.Facing.{granted_of}
use Rattle.laws_wire.specs.Recovering.{rounds, both_expire, with_t200_expired, BothMayRepeat}
use Rattle.laws_wire.specs.Timely.{MayRepeat}
use Rattle.laws_wire.specs.Resting.{moves, expiries, most_frames}
use Rattle.laws_wire.specs.Answering.{IsFullTalk, StayPatient, IsAtRest, Called, uncalled, seen, all_kept, all_of_calls}

-- How often layer 3 of an end was granted to say that it is busy, or ready again: for each RNR or RR goes, at most once.
abbrev pub is_of_busy : Request → Bool
is_of_busy (SetBusy service tei) = true
is_of_busy (ClearBusy service tei) = true
is_of_busy other = false

abbrev pub reports_of : Step → Wire → ℕ
reports_of (requests r) w = if is_of_busy r && is_granted (answered (request r) w.near) then 1 else 0
reports_of other w = 0

abbrev pub reports_in : StepAt → Wire → ℕ
reports_in (at_near act) w = reports_of act w
reports_in (at_far act) w = reports_of act (turned w)

unfoldable pub reports : List StepAt → Wire → ℕ
reports [] w = 0
reports (d ∷ ds) w = reports_in d w + reports ds (doing d w)

-- There are at most twice as many moves as `Resting` counts frames, where such a frame counts, too: also where UA is lost, as UA is
-- counted for each SABME that goes again.
abbrev pub most_moves : ℕ → List StepAt → Wire → ℕ
most_moves k ds w = 2 * (most_frames k (expiries ds) (granted_of (doing_all ds w)) + reports ds w)

abbrev pub LossyMovesComeToAnEnd : Type 0
LossyMovesComeToAnEnd =
    (service : Service) (c d : Config) (line other tei k : ℕ) (ds : List StepAt) → CanCall c line d other tei →
    All (IsFullTalk service tei) ds → (terms c service tei).k ≤ k → (terms d service tei).k ≤ k →
    let begun = calling service tei c line d other in
    StayPatient ds begun → moves ds begun ≤ most_moves k ds begun

-- So where nothing more is asked for and no timer expires, within so many rounds there is a time when no turn is left.
abbrev pub LossyRoundsComeToRest : Type 0
LossyRoundsComeToRest =
    (service : Service) (c d : Config) (line other tei k : ℕ) (ds : List StepAt) → CanCall c line d other tei →
    All (IsFullTalk service tei) ds → (terms c service tei).k ≤ k → (terms d service tei).k ≤ k →
    let begun = calling service tei c line d other in
    StayPatient ds begun → (n : ℕ) × (n ≤ most_moves k ds begun) × IsStill (rounds n (doing_all ds begun))

-- Whether layer 3 of either end was granted last to say that it is busy, or that it is ready again. That SABME, too, ends own busy
-- does not matter here.
pub record Busy : Type 0 where
  pub near : Bool
  pub far : Bool

abbrev pub none_busy : Busy
none_busy = record { near = false; far = false }

abbrev pub busy_by : Step → Endpoint → Bool → Bool
busy_by (requests (SetBusy service tei)) s b = b || is_granted (answered (request (SetBusy service tei)) s)
busy_by (requests (ClearBusy service tei)) s b = b && not (is_granted (answered (request (ClearBusy service tei)) s))
busy_by other s b = b

abbrev pub busy_behind : StepAt → Wire → Busy → Busy
busy_behind (at_near act) w x = record x { near = busy_by act w.near x.near }
busy_behind (at_far act) w x = record x { far = busy_by act w.far x.far }

unfoldable pub busy : List StepAt → Wire → Busy → Busy
busy [] w x = x
busy (d ∷ ds) w x = busy ds (doing d w) (busy_behind d w x)

-- Where no turn is left and the end that calls was told nothing yet, it is told of the establishment in one round, once its T200 expires.
abbrev pub near_expires : Service → ℕ → List StepAt
near_expires service tei = at_near (expires (T200 service tei)) ∷ []

abbrev pub LossyCallsAreAnswered : Type 0
LossyCallsAreAnswered =
    (service : Service) (c d : Config) (line other tei : ℕ) (ds : List StepAt) → CanCall c line d other tei → All (IsFullTalk service tei) ds →
    let begun = calling service tei c line d other in let w = doing_all ds begun in let rings = near_expires service tei in
    StayPatient ds begun → IsStill w → heard_in w.near ≡ [] → MayRepeat service tei w.near →
    StayPatient rings w × (heard_in (rounds 1 (doing_all rings w)).near ≡ confirmed service tei ∷ [])

-- Of what each is to be told in the end, at most so much is missing; and all of it was told.
abbrev pub HasLeft : Service → ℕ → ℕ → Called → Wire → Type 0
HasLeft service tei u x w =
    (length (all_kept service tei x w.far) ≤ length (heard_in w.near) + u)
    × (length (all_of_calls service tei x w.near) ≤ length (heard_in w.far) + u)

abbrev pub HasTold : Service → ℕ → Called → Wire → Wire → Type 0
HasTold service tei x before w =
    (heard_in w.near ≡ all_kept service tei x before.far) × (heard_in w.far ≡ all_of_calls service tei x before.near)

-- No turn is left, the end that calls was told of the establishment, and no error is told as T200 expires at both ends.
abbrev pub MayExpire : Service → ℕ → Wire → Type 0
MayExpire service tei w = IsStill w × (heard_in w.near ≢ []) × BothMayRepeat service tei w

-- There, if neither end is busy, all settles once T200 expires, in as many rounds as notes are missing, and three more.
pub record Settles (service : Service) (tei : ℕ) (x : Called) (w : Wire) : Type 0 where
  pub goes_on : MayExpire service tei w → StayPatient (both_expire service tei) w
  pub settles : (u : ℕ) → MayExpire service tei w → HasLeft service tei u x w →
      let last = rounds (u + 3) (with_t200_expired service tei w) in HasTold service tei x w last × IsAtRest service tei last

abbrev pub LossyCallsSettle : Type 0
LossyCallsSettle =
    (service : Service) (c d : Config) (line other tei : ℕ) (ds : List StepAt) → CanCall c line d other tei → All (IsFullTalk service tei) ds →
    let begun = calling service tei c line d other in StayPatient ds begun → busy ds begun none_busy ≡ none_busy →
    Settles service tei (seen service tei ds begun uncalled) (doing_all ds begun)

-- So rest comes, at any time of such a call, where nothing more is asked for and nothing more is lost: rounds lead to where no turn is
-- left, and T200 expires at the end that calls; they lead there again, and it expires at both; and then as many rounds as contents were
-- granted in all, and three more, lead to rest.
abbrev pub LossyCallsComeToRest : Type 0
LossyCallsComeToRest =
    (service : Service) (c d : Config) (line other tei k : ℕ) (ds : List StepAt) → CanCall c line d other tei → All (IsFullTalk service tei) ds →
    (terms c service tei).k ≤ k → (terms d service tei).k ≤ k → let begun = calling service tei c line d other in let w = doing_all ds begun in
    StayPatient ds begun → busy ds begun none_busy ≡ none_busy →
    (n : ℕ) × (n ≤ most_moves k ds begun) × IsStill (rounds n w) × (MayRepeat service tei (rounds n w).near →
    let w' = doing_all (near_expires service tei) (rounds n w) in
    (m : ℕ) × (m ≤ most_moves k ds begun + 2 * (k + 2) + 1) × IsStill (rounds m w') × (BothMayRepeat service tei (rounds m w') →
    IsAtRest service tei (rounds (granted_of w + 3) (with_t200_expired service tei (rounds m w')))))
