-- A call in which frames are lost, and T200 is long enough: both ends stay up, and what was lost arrives.
use Rattle.std.specs.Prelude.{◌≡◌, ℕ, zero, suc, ◌+◌, ◌≤◌, List, [], ◌∷◌, length, All}
use Rattle.lapd_frame.specs.declared.services.Service.{Service}
use Rattle.lapd_frame.specs.declared.timers.Timer.TheVariants.{T200}
use Rattle.model_line.specs.declared.config.Config.{Config}
use Rattle.laws_wire.specs.Wire.{Wire, expires, sends, receives, StepAt, at_near, at_far, doing, doing_all, IsStill}
use Rattle.laws_wire.specs.Call.{calling, CanCall}
use Rattle.laws_wire.specs.Losing.{IsRoughTalk, heard_in, HasNoError, due_near, due_far}
use Rattle.laws_wire.specs.Timely.{MayRepeat, StayTimely}

-- A round: each end in turn gives its next frame, if it has one, and the other takes it. Nothing is lost.
abbrev pub round : List StepAt
round = at_near sends ∷ at_far receives ∷ at_far sends ∷ at_near receives ∷ []

unfoldable pub rounds : ℕ → Wire → Wire
rounds zero w = w
rounds (suc n) w = rounds n (doing_all round w)

-- Of what layer 3 of each is to be told in the end, at most so much is missing.
abbrev pub HasMissing : Service → ℕ → ℕ → Wire → Type 0
HasMissing service tei u w =
    (length (due_near service tei w) ≤ length (heard_in w.near) + u) × (length (due_far service tei w) ≤ length (heard_in w.far) + u)

-- Nothing is missing: each was told all that was due, in order, each once, and nothing else; and no turn is left.
abbrev pub HasArrived : Service → ℕ → Wire → Wire → Type 0
HasArrived service tei before w =
    (heard_in w.near ≡ due_near service tei before) × (heard_in w.far ≡ due_far service tei before) × IsStill w

-- T200 of the link expires at both ends.
abbrev pub both_expire : Service → ℕ → List StepAt
both_expire service tei = at_near (expires (T200 service tei)) ∷ at_far (expires (T200 service tei)) ∷ []

abbrev pub with_t200_expired : Service → ℕ → Wire → Wire
with_t200_expired service tei w = doing (at_far (expires (T200 service tei))) (doing (at_near (expires (T200 service tei))) w)

abbrev pub HasNoErrors : Wire → Type 0
HasNoErrors w = HasNoError w.near × HasNoError w.far

abbrev pub BothMayRepeat : Service → ℕ → Wire → Type 0
BothMayRepeat service tei w = MayRepeat service tei w.near × MayRepeat service tei w.far

-- Both stay up: no error is told. And where no turn is left what is lost arrives: once T200 expires at both ends, as
-- many rounds as notes are missing, and three more, are enough. T200 is long enough for that, so that the same holds
-- again behind it, wherever the call goes on from there.
pub record Recovers (service : Service) (tei : ℕ) (w : Wire) : Type 0 where
  pub no_error : HasNoErrors w
  pub arrives : (u : ℕ) → IsStill w → HasMissing service tei u w → BothMayRepeat service tei w →
      HasArrived service tei w (rounds (u + 3) (with_t200_expired service tei w))
  pub goes_on : IsStill w → BothMayRepeat service tei w → StayTimely (both_expire service tei) w

abbrev pub WhatIsLostArrives : Type 0
WhatIsLostArrives =
    (service : Service) (c d : Config) (line other tei : ℕ) (ds : List StepAt) → CanCall c line d other tei → All (IsRoughTalk service tei) ds →
    let w = calling service tei c line d other in StayTimely ds w → Recovers service tei (doing_all ds w)
