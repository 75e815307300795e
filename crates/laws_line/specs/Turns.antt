-- The links of a line take turns.
use Rattle.std.specs.Prelude.{◌≡◌, ℕ, ◌+◌, List, ◌∷◌, ◌++◌, Some, None, All}
use Rattle.model_line.specs.declared.config.Config.{Config}
use Rattle.model_line.specs.Line.{Line}
use Rattle.model_line.specs.Taken.{Taken, message_taken, unit_taken, link_taken, taken, round}

-- What is taken is what this link has to give: each link before it in the round has nothing to give, and the next
-- round begins with the link after it.
pub record IsInTurn (c : Config) (l : Line) (number : ℕ) (t : Taken) : Type 0 where
  pub before : List ℕ
  pub behind : List ℕ
  pub place : round c l ≡ before ++ number ∷ behind
  pub passed : All (λ other. link_taken c l other ≡ None) before
  pub given : link_taken c l number ≡ Some t
  pub turn : t.line.turn ≡ number + 1

-- So it is for every frame of a link, which goes where neither a message nor unit data waits.
abbrev pub LinksTakeTurns : Type 0
LinksTakeTurns =
    (c : Config) (l : Line) (t : Taken) → message_taken c l ≡ None → unit_taken c l ≡ None → taken c l ≡ Some t →
    (number : ℕ) × IsInTurn c l number t
