-- How often T200 expires once no frame is lost any more: the first time, and then once at most for each content that is missing.
use Rattle.std.specs.Prelude.{◌≡◌, ◌≤◌, ℕ, ◌+◌, ◌*◌, Bool, List, [], ◌∷◌, length, if◌then◌else◌}
use Rattle.lapd_frame.specs.declared.services.Service.{Service}
use Rattle.model_line.specs.declared.config.Config.{Config}
use Rattle.model_line.specs.Line.{terms}
use Rattle.laws_wire.specs.Wire.{Wire, StepAt, doing, doing_all}
use Rattle.laws_wire.specs.Call.{calling}
use Rattle.laws_wire.specs.Losing.{heard_in, due_near, due_far}
use Rattle.laws_wire.specs.Facing.{granted_of}
use Rattle.laws_wire.specs.Resting.{moves, expiries, most_frames}
use Rattle.laws_wire.specs.Arriving.{near_asks, far_asks, LosesNoMore, frames_left, notes_left}

-- How often T200 of an end expired while it ran.
unfoldable pub how_often : (StepAt → Wire → Bool) → List StepAt → Wire → ℕ
how_often asks [] w = 0
how_often asks (d ∷ ds) w = (if asks d w then 1 else 0) + how_often asks ds (doing d w)

-- Of what the other is to be told in the end so much was missing, and T200 expires once more at most.
abbrev pub ExpiriesComeToAnEnd : Type 0
ExpiriesComeToAnEnd =
    (service : Service) (c d : Config) (line other tei : ℕ) (before since : List StepAt) →
    LosesNoMore service tei c line d other before since →
    let w = doing_all before (calling service tei c line d other) in let last = doing_all since w in
    (length (heard_in w.far) + how_often (near_asks service tei) since w ≤ length (due_far service tei last) + 1)
    × (length (heard_in w.near) + how_often (far_asks service tei) since w ≤ length (due_near service tei last) + 1)

-- If nothing more is granted, and no timer expires but T200 while it runs, then there are at most so many moves from there on.
abbrev pub most_since : Service → ℕ → ℕ → Wire → ℕ
most_since service tei k w =
    2 * most_frames k (6 + frames_left service tei w.near + frames_left service tei w.far + notes_left service tei w) (notes_left service tei w)

abbrev pub MovesComeToAnEndAsT200Expires : Type 0
MovesComeToAnEndAsT200Expires =
    (service : Service) (c d : Config) (line other tei k : ℕ) (before since : List StepAt) →
    LosesNoMore service tei c line d other before since → (terms c service tei).k ≤ k → (terms d service tei).k ≤ k →
    let w = doing_all before (calling service tei c line d other) in granted_of (doing_all since w) ≡ granted_of w →
    expiries since ≤ how_often (near_asks service tei) since w + how_often (far_asks service tei) since w → moves since w ≤ most_since service tei k w
