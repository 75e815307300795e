-- Even and odd numbers, and their halves.
use Rattle.lapd_c.proofs.Vocabulary.{◌≡◌, ℕ, ◌+◌, ◌*◌, arith}
use Rattle.std.specs.Prelude.{◌≢◌, ◌/◌, ◌%◌}

pub even : (n : ℕ) → (2 * n % 2 ≡ 0) × (2 * n / 2 ≡ n)
even n = (omega arith, omega arith)

pub odd : (n : ℕ) → ((2 * n + 1) % 2 ≡ 1) × ((2 * n + 1) / 2 ≡ n)
odd n = (omega arith, omega arith)

pub evenly : (n : ℕ) → n % 2 ≡ 0 → 2 * (n / 2) ≡ n
evenly n is = omega (arith, is)

pub oddly : (n : ℕ) → n % 2 ≢ 0 → 2 * (n / 2) + 1 ≡ n
oddly n is = omega (arith, is)
