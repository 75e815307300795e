-- The first number that is marked, going round.
use Rattle.std.specs.Prelude.{◌≡◌, ℕ, ◌<◌, ◌≤◌, false, Option, Some, IfSome, MatchOption}
use Rattle.std.specs.Option.{unwrap_or}
use Rattle.lapd_line.specs.declared.marks.Marks.{Marks}
use Rattle.lapd_line.specs.Marks.{IsMark, IsMarkedAmong}

-- The first of those from a number on and below another, where one of these is marked.
abbrev pub IsFirst : Marks → ℕ → ℕ → Option ℕ → Type 0
IsFirst m from to first =
    IfSome first (IsMarkedAmong m from to) × ((number : ℕ) → from ≤ number → number < unwrap_or first to → IsMark m number false)

-- The first of so many, from the turn on; else the first of those before it.
abbrev pub IsFirstAround : Marks → ℕ → ℕ → Option ℕ → Type 0
IsFirstAround m turn count first =
    (behind : Option ℕ) × IsFirst m turn count behind × MatchOption behind (IsFirst m 0 turn first) (λ number. first ≡ Some number)
