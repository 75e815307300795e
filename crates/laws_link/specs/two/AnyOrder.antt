-- Turns of two ends in any order, on ways that lose nothing: both ways may be busy at once.
use Rattle.std.specs.Prelude.{◌≡◌, ℕ, ◌+◌, ◌*◌, ◌≤◌, List, [], ◌∷◌, length, if◌then◌else◌}
use Rattle.lapd_frame.specs.declared.controls.Control.{Control}
use Rattle.lapd_frame.specs.declared.controls.Control.TheVariants.{Information}
use Rattle.lapd_frame.specs.Grammar.{Parts}
use Rattle.model_link.specs.Link.{unsent}
use Rattle.model_link.specs.TwoEnds.{Endpoint, Ends, Step, requests, expires, sends, receives, loses, StepAt, at_near, at_far, doing}
use Rattle.laws_link.specs.two.Waits.{HasNothingToSend}

-- A turn that does something: an end that has something to send gives its next frame, or one receives the first frame of the
-- other's way, where there is one.
abbrev pub IsTurnOf : Step → Endpoint → Endpoint → Type 0
IsTurnOf (requests request full) n m = ⊥
IsTurnOf (expires timer) n m = ⊥
IsTurnOf sends n m = HasNothingToSend n.terms n.link → ⊥
IsTurnOf receives n m = 1 ≤ length m.way
IsTurnOf loses n m = ⊥

abbrev pub IsTurn : StepAt → Ends → Type 0
IsTurn (at_near act) e = IsTurnOf act e.near e.far
IsTurn (at_far act) e = IsTurnOf act e.far e.near

-- So it is at each step, before it.
unfoldable pub AreTurns : List StepAt → Ends → Type 0
AreTurns [] e = Unit {0}
AreTurns (d ∷ ds) e = IsTurn d e × AreTurns ds (doing d e)

-- No turn is left: neither has anything to send, and nothing is on its way.
pub record IsStill (e : Ends) : Type 0 where
  pub near : HasNothingToSend e.near.terms e.near.link
  pub far : HasNothingToSend e.far.terms e.far.link
  pub near_way : e.near.way ≡ []
  pub far_way : e.far.way ≡ []

-- What is to be done for an end: 4 for each content unsent, 3 for each I-frame on its way and 1 for each other frame, and 2
-- for an acknowledgement that is owed.
abbrev pub load_of : Control → ℕ
load_of (Information ns nr p) = 3
load_of other = 1

abbrev pub load : List Parts → ℕ
load [] = 0
load (f ∷ fs) = load_of f.control + load fs

abbrev pub weight_at : Endpoint → ℕ
weight_at n = 4 * unsent n.link + load n.way + (if n.link.pending then 2 else 0)

abbrev pub weight : Ends → ℕ
weight e = weight_at e.near + weight_at e.far
