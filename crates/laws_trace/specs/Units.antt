-- Unit data: the UI frames.
use Rattle.std.specs.Prelude.{ℕ, Bool, true, false, List, [], ◌∷◌}
use Rattle.lapd_frame.specs.declared.controls.Control.{Control}
use Rattle.lapd_frame.specs.declared.controls.Control.TheVariants.{Ui}
use Rattle.model_line.specs.declared.config.Config.{Config}
use Rattle.model_line.specs.Taken.{unit_frame}
use Rattle.model_line.specs.Request as asked
use Rattle.model_line.specs.Request.{Request, Down}

-- A UI (Q.921 clause 3.6.5).
abbrev pub is_ui : Control → Bool
is_ui (Ui p) = true
is_ui other = false

-- The frame that is asked for by unit data: with its service and its TEI, in a UI command with P=0 (clauses 3.6.5 and 5.2.2).
abbrev pub unit_asked : Config → Request → List (List ℕ)
unit_asked c (asked.Unit service tei contents) = unit_frame c (record { service = service; tei = tei; contents = contents }) ∷ []
unit_asked c other = []

-- Where the line is down, what waits is given up (annex B, persistent deactivation).
abbrev pub is_down : Request → Bool
is_down Down = true
is_down other = false
