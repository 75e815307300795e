-- What a struct has for a later version: places that are 0.
use Rattle.std.specs.Prelude.{◌≡◌, ℕ, ◌==◌, Bool, List, [], ◌∷◌, replicate, Option, Some, None, if◌then◌else◌, refl}
use Rattle.std.specs.List.{list_all}
use Rattle.lapd_c.specs.Statuses.{bad_reserved}

-- Of what is written all places are 0.
abbrev pub unused : ℕ → List ℕ
unused places = replicate places 0

-- What is given is read only if they are.
abbrev pub is_unused : List ℕ → Bool
is_unused places = list_all (λ place. place == 0) places

abbrev pub reserve_fault : List ℕ → Option ℕ
reserve_fault places = if is_unused places then None else Some bad_reserved

worked_unused : reserve_fault (unused 4) ≡ None
worked_unused = refl

worked_used : reserve_fault (0 ∷ 0 ∷ 1 ∷ 0 ∷ []) ≡ Some 47
worked_used = refl
