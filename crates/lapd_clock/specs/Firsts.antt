-- The moment of a timer that does not run.
use Rattle.std.specs.Prelude.{ℕ}

-- It is later than any at which a timer falls due.
abbrev pub never : ℕ
never = 18446744073709551615
