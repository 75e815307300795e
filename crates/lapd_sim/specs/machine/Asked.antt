-- Of which cards the program's word `limits` tells the bound.
use Rattle.std.specs.Prelude.{◌≡◌, ℕ, List, [], ◌∷◌, codes, decimal, Some}
use Rattle.model_line.specs.declared.config.Config.{Config}
use Rattle.model_line.specs.Sound.{IsInRange}
use Rattle.lapd_script.specs.Job.{Job, job, limits}

-- The word with the numbers of a configuration, and what these ask for.
abbrev pub limits_words : Config → List (List ℕ)
limits_words c = codes "limits" ∷ decimal c.lines ∷ decimal c.terminals ∷ decimal c.control ∷ decimal c.slots ∷ decimal c.n201 ∷ []

abbrev pub limits_of_card : Config → Job
limits_of_card c = limits c.lines c.terminals c.control c.slots c.n201

-- Each configuration that a card can be started with can be asked about, and no numbers that are of none.
pub record LimitsAreOfCards : Type 0 where
  pub each : (c : Config) → IsInRange c → job (limits_words c) ≡ Some (limits_of_card c)
  pub only : (words : List (List ℕ)) (lines terminals control slots n201 : ℕ) → job words ≡ Some (limits lines terminals control slots n201)
      → (c : Config) × IsInRange c × (limits lines terminals control slots n201 ≡ limits_of_card c)
