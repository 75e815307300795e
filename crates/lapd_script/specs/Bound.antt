-- What a card stores at most.
use Rattle.std.specs.Prelude.{ℕ, ◌+◌, ◌*◌}

-- How many octets a card with these numbers stores at most (profile).
abbrev pub bound : ℕ → ℕ → ℕ → ℕ → ℕ → ℕ
bound lines terminals control slots n201 = lines * (2 * n201 + 10 + 8 * control * terminals + 32 + 12) + slots * n201
