-- How many turns there are at most in a call, whatever is lost and whichever timers expire.
use Rattle.std.specs.Prelude.{ℕ, ◌+◌, ◌*◌, ◌≤◌, Bool, false, List, [], ◌∷◌, All, if◌then◌else◌}
use Rattle.lapd_frame.specs.declared.services.Service.{Service}
use Rattle.model_line.specs.declared.config.Config.{Config}
use Rattle.model_line.specs.Line.{terms}
use Rattle.laws_wire.specs.Wire.{Wire, Step, requests, expires, sends, receives, loses, turned, StepAt, at_near, at_far, doing, doing_all, is_any, is_turn_of, IsStill}
use Rattle.laws_wire.specs.Call.{calling, CanCall}
use Rattle.laws_wire.specs.Losing.{IsRoughTalk, HasNoError}
use Rattle.laws_wire.specs.Facing.{granted_of}
use Rattle.laws_wire.specs.Recovering.{rounds, HasNoErrors}
use Rattle.laws_wire.specs.Timely.{StayTimely}

-- A move is a turn, or that a frame is lost on its way: an end gives a frame, or one is taken or lost. So many of what is done
-- are moves.
abbrev pub is_move_of : Step → Wire → Bool
is_move_of (requests r) w = false
is_move_of (expires timer) w = false
is_move_of sends w = is_turn_of sends w
is_move_of receives w = is_turn_of receives w
is_move_of loses w = is_any w.near.way

abbrev pub is_move : StepAt → Wire → Bool
is_move (at_near act) w = is_move_of act w
is_move (at_far act) w = is_move_of act (turned w)

unfoldable pub moves : List StepAt → Wire → ℕ
moves [] w = 0
moves (d ∷ ds) w = (if is_move d w then 1 else 0) + moves ds (doing d w)

-- How often a timer expires.
abbrev pub expiries_of : Step → ℕ
expiries_of (expires timer) = 1
expiries_of other = 0

abbrev pub expiries_in : StepAt → ℕ
expiries_in (at_near act) = expiries_of act
expiries_in (at_far act) = expiries_of act

unfoldable pub expiries : List StepAt → ℕ
expiries [] = 0
expiries (d ∷ ds) = expiries_in d + expiries ds

-- What the bound counts, in frames, where at most k are outstanding at either end: SABME and UA, and at each end a REJ for
-- which k go again; for each expiry an enquiry and its answer, for which k go again; and for each request that was granted an
-- I-frame, its acknowledgement, and a REJ for which k go again.
abbrev pub most_frames : ℕ → ℕ → ℕ → ℕ
most_frames k expired granted = 2 * (k + 2) + (k + 2) * expired + (k + 3) * granted

-- There are at most twice as many moves, as long as no error was told: a frame is given, and then taken or lost.
abbrev pub MovesComeToAnEnd : Type 0
MovesComeToAnEnd =
    (service : Service) (c d : Config) (line other tei k : ℕ) (ds : List StepAt) → CanCall c line d other tei →
    All (IsRoughTalk service tei) ds → (terms c service tei).k ≤ k → (terms d service tei).k ≤ k →
    let begun = calling service tei c line d other in let w = doing_all ds begun in
    HasNoError w.near → HasNoError w.far → moves ds begun ≤ 2 * most_frames k (expiries ds) (granted_of w)

-- So where nothing more is asked for, no timer expires and no error is told, within so many rounds there is a time when no turn
-- is left.
abbrev pub RoundsComeToRest : Type 0
RoundsComeToRest =
    (service : Service) (c d : Config) (line other tei k : ℕ) (ds : List StepAt) → CanCall c line d other tei →
    All (IsRoughTalk service tei) ds → (terms c service tei).k ≤ k → (terms d service tei).k ≤ k →
    let w = doing_all ds (calling service tei c line d other) in let most = 2 * most_frames k (expiries ds) (granted_of w) in
    HasNoErrors (rounds (most + 1) w) → (n : ℕ) × (n ≤ most) × IsStill (rounds n w)

-- And no error is told where the call is timely: T200 is long enough, N200 is not used up, and UA is not lost.
abbrev pub TimelyRoundsComeToRest : Type 0
TimelyRoundsComeToRest =
    (service : Service) (c d : Config) (line other tei k : ℕ) (ds : List StepAt) → CanCall c line d other tei →
    All (IsRoughTalk service tei) ds → (terms c service tei).k ≤ k → (terms d service tei).k ≤ k →
    let begun = calling service tei c line d other in StayTimely ds begun → let w = doing_all ds begun in
    let most = 2 * most_frames k (expiries ds) (granted_of w) in (n : ℕ) × (n ≤ most) × IsStill (rounds n w)
