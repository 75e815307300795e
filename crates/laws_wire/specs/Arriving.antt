-- What arrives under traffic: of an end whose T200 has expired since a frame was lost last, all that it was granted to send.
use Rattle.std.specs.Prelude.{◌≡◌, ◌≢◌, ◌≤◌, ℕ, ◌+◌, ◌-◌, ◌*◌, Bool, true, false, ◌&&◌, ◌||◌, List, [], ◌∷◌, ◌++◌, length, All, ◌⊎◌}
use Rattle.lapd_frame.specs.declared.services.Service.{Service}
use Rattle.lapd_frame.specs.declared.timers.Order.{Order}
use Rattle.lapd_frame.specs.declared.timers.Timer.TheVariants.{T200}
use Rattle.model_line.specs.declared.config.Config.{Config}
use Rattle.model_line.specs.Event.{expiry}
use Rattle.model_line.specs.Laws.{orders_in}
use Rattle.model_line.specs.Line.{terms}
use Rattle.laws_wire.specs.Wire.{Endpoint, answered, Wire, Step, expires, sends, receives, loses, StepAt, at_near, at_far, doing, doing_all, turns, IsStill}
use Rattle.laws_wire.specs.Call.{calling, CanCall}
use Rattle.laws_wire.specs.Losing.{IsRoughTalk, heard_in, due_near, due_far}
use Rattle.laws_wire.specs.Facing.{own_link, granted_of}
use Rattle.laws_wire.specs.Recovering.{rounds}
use Rattle.laws_wire.specs.Resting.{expiries, most_frames}
use Rattle.laws_wire.specs.Timely.{StayTimely}

-- No frame is lost.
abbrev pub LosesNothing : StepAt → Type 0
LosesNothing (at_near loses) = ⊥
LosesNothing (at_far loses) = ⊥
LosesNothing other = Unit {0}

-- T200 of the link runs at an endpoint: its expiry there is answered with orders for timers. That of a timer that does not run tells
-- nothing (profile). At a caller's that obeys the orders those timers run that run here (`timers_run` of `laws_trace`).
abbrev pub is_any_order : List Order → Bool
is_any_order [] = false
is_any_order (order ∷ more) = true

abbrev pub runs_t200 : Service → ℕ → Endpoint → Bool
runs_t200 service tei s = is_any_order (orders_in (answered (expiry (T200 service tei)) s))

abbrev pub is_t200 : Step → Bool
is_t200 (expires (T200 service tei)) = true
is_t200 other = false

abbrev pub near_asks : Service → ℕ → StepAt → Wire → Bool
near_asks service tei (at_near act) w = is_t200 act && runs_t200 service tei w.near
near_asks service tei (at_far act) w = false

abbrev pub far_asks : Service → ℕ → StepAt → Wire → Bool
far_asks service tei (at_near act) w = false
far_asks service tei (at_far act) w = is_t200 act && runs_t200 service tei w.far

unfoldable pub ever : (StepAt → Wire → Bool) → List StepAt → Wire → Bool
ever asks [] w = false
ever asks (d ∷ ds) w = asks d w || ever asks ds (doing d w)

-- T200 of an end has expired since, or does not run.
abbrev pub IsSettled : Service → ℕ → Bool → Endpoint → Type 0
IsSettled service tei expired s = (expired ≡ true) ⊎ (runs_t200 service tei s ≡ false)

-- Then all that it was granted to send has been told at the other, in order, each once, and nothing else. So an expiry is needed at
-- that end alone, and only where T200 runs.
pub record HasCome (service : Service) (tei : ℕ) (since : List StepAt) (w last : Wire) : Type 0 where
  pub near : IsSettled service tei (ever (near_asks service tei) since w) last.near → heard_in last.far ≡ due_far service tei last
  pub far : IsSettled service tei (ever (far_asks service tei) since w) last.far → heard_in last.near ≡ due_near service tei last

-- Behind its establishment a call goes on, as `Recovering` has it, and nothing is lost.
abbrev pub GoesOn : Service → ℕ → List StepAt → Wire → Type 0
GoesOn service tei since w = (heard_in w.near ≢ []) × All (IsRoughTalk service tei) since × All LosesNothing since × StayTimely since w

-- Such a call, with room for three control frames at either end, loses no more frames, whatever was lost before.
abbrev pub LosesNoMore : Service → ℕ → Config → ℕ → Config → ℕ → List StepAt → List StepAt → Type 0
LosesNoMore service tei c line d other before since =
    let begun = calling service tei c line d other in
    CanCall c line d other tei × (3 ≤ c.control) × (3 ≤ d.control)
    × All (IsRoughTalk service tei) before × StayTimely before begun × GoesOn service tei since (doing_all before begun)

-- So it is there where no turn is left.
abbrev pub ArrivesUnderTraffic : Type 0
ArrivesUnderTraffic =
    (service : Service) (c d : Config) (line other tei : ℕ) (before since : List StepAt) →
    LosesNoMore service tei c line d other before since →
    let w = doing_all before (calling service tei c line d other) in let last = doing_all since w in
    IsStill last → HasCome service tei since w last

-- What is left to do there: control frames of the link that wait, and frames on their way; and what layer 3 of either is still to be
-- told.
abbrev pub frames_left : Service → ℕ → Endpoint → ℕ
frames_left service tei s = length (own_link service tei s).waiting + length s.way

abbrev pub notes_left : Service → ℕ → Wire → ℕ
notes_left service tei w =
    (length (due_near service tei w) - length (heard_in w.near)) + (length (due_far service tei w) - length (heard_in w.far))

abbrev pub most_left : Service → ℕ → ℕ → Wire → ℕ
most_left service tei k w =
    2 * most_frames k (4 + frames_left service tei w.near + frames_left service tei w.far) (notes_left service tei w)

-- And there is such a time within so many rounds in which nothing more is asked for, nothing is lost, and no timer expires: as many as
-- the bound of `Resting` says of the whole call, and as many as what is left to do there says.
abbrev pub ArrivesInRounds : Type 0
ArrivesInRounds =
    (service : Service) (c d : Config) (line other tei k : ℕ) (before since : List StepAt) →
    LosesNoMore service tei c line d other before since → (terms c service tei).k ≤ k → (terms d service tei).k ≤ k →
    let w = doing_all before (calling service tei c line d other) in let last = doing_all since w in
    (n : ℕ) × (n ≤ most_left service tei k last) × (n ≤ 2 * most_frames k (expiries (before ++ since)) (granted_of last))
    × IsStill (rounds n last) × HasCome service tei since w (rounds n last)

-- So it is of turns in any order, at either end: there are at most so many, and where none is left all has come.
abbrev pub GivesOrTakesOf : Step → Type 0
GivesOrTakesOf sends = Unit {0}
GivesOrTakesOf receives = Unit {0}
GivesOrTakesOf other = ⊥

abbrev pub SendsOrReceives : StepAt → Type 0
SendsOrReceives (at_near act) = GivesOrTakesOf act
SendsOrReceives (at_far act) = GivesOrTakesOf act

abbrev pub ArrivesInTurns : Type 0
ArrivesInTurns =
    (service : Service) (c d : Config) (line other tei k : ℕ) (before since more : List StepAt) →
    LosesNoMore service tei c line d other before since → (terms c service tei).k ≤ k → (terms d service tei).k ≤ k →
    All SendsOrReceives more → let w = doing_all before (calling service tei c line d other) in let last = doing_all since w in
    (turns more last ≤ most_left service tei k last) × (turns more last ≤ 2 * most_frames k (expiries (before ++ since)) (granted_of last))
    × (IsStill (doing_all more last) → HasCome service tei since w (doing_all more last))
