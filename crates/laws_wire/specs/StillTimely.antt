-- A T200 that expires only where no turn is left is long enough: what is lost arrives then, in words of what is seen at the two ends.
use Rattle.std.specs.Prelude.{◌≢◌, ℕ, ◌+◌, List, [], ◌∷◌, All}
use Rattle.lapd_frame.specs.declared.services.Service.{Service}
use Rattle.lapd_frame.specs.declared.timers.Timer.TheVariants.{T200}
use Rattle.model_line.specs.declared.config.Config.{Config}
use Rattle.laws_wire.specs.Wire.{Wire, Step, expires, loses, acting, turned, StepAt, at_near, at_far, doing, doing_all, IsStill}
use Rattle.laws_wire.specs.Call.{calling, CanCall}
use Rattle.laws_wire.specs.Losing.{heard_in, IsRoughTalk}
use Rattle.laws_wire.specs.Recovering.{rounds, with_t200_expired, HasNoErrors, HasMissing, HasArrived}

-- T200 expires where no turn is left, and no error is told as it does, so that N200 is not used up. T203 may expire at any time.
abbrev pub IsStillOf : Step → Wire → Type 0
IsStillOf (expires (T200 service tei)) w = IsStill w × HasNoErrors (acting (expires (T200 service tei)) w)
IsStillOf other w = Unit {0}

-- And UA is not lost: before the other has heard that the link is established the end that was called loses no frame, and no timer
-- expires there.
abbrev pub IsSparedStill : Step → Wire → Type 0
IsSparedStill loses w = heard_in w.near ≢ []
IsSparedStill (expires timer) w = heard_in w.near ≢ []
IsSparedStill other w = Unit {0}

abbrev pub IsStillStepAt : StepAt → Wire → Type 0
IsStillStepAt (at_near act) w = IsStillOf act w
IsStillStepAt (at_far act) w = IsStillOf act (turned w) × IsSparedStill act w

unfoldable pub StayStill : List StepAt → Wire → Type 0
StayStill [] w = Unit {0}
StayStill (d ∷ ds) w = IsStillStepAt d w × StayStill ds (doing d w)

-- No error is told. And where no turn is left all arrives once T200 expires at both ends with no error, in as many rounds as notes are
-- missing, and three more.
pub record RecoversStill (service : Service) (tei : ℕ) (w : Wire) : Type 0 where
  pub no_error : HasNoErrors w
  pub arrives : (u : ℕ) → IsStill w → HasMissing service tei u w → HasNoErrors (with_t200_expired service tei w) →
      HasArrived service tei w (rounds (u + 3) (with_t200_expired service tei w))

abbrev pub WhatIsLostArrivesFromRest : Type 0
WhatIsLostArrivesFromRest =
    (service : Service) (c d : Config) (line other tei : ℕ) (ds : List StepAt) → CanCall c line d other tei → All (IsRoughTalk service tei) ds →
    let w = calling service tei c line d other in StayStill ds w → RecoversStill service tei (doing_all ds w)
