-- How long a stuffed text is.
use Rattle.model_bits.proofs.Vocabulary.{ℕ, suc, ◌+◌, ◌*◌, ◌≤◌, Bool, true, false, List, [], ◌∷◌, length, arith, ⊎_elim, length-append, lt-ltb, le-ltb, cases_lt}
use Rattle.model_bits.proofs.StuffingCounted.{stuffed_after, stuffed_zero, ones_left}

-- the 1s at the end of what is sent of bits, with the 0 after a fifth
abbrev pub ones_sent : ℕ → List Bool → ℕ
ones_sent ones [] = ones_left ones
ones_sent ones (false ∷ b) = ones_sent 0 b
ones_sent ones (true ∷ b) = ones_sent (suc (ones_left ones)) b

-- each bit is one, and each 0 more takes five 1s
pub stuffed_after-pays : (ones : ℕ) (text : List Bool) → ones ≤ 5 → 5 * length (stuffed_after ones text) + ones_sent ones text ≤ 6 * length text + ones
stuffed_after-pays ones [] few =
    ⊎_elim
    (λ below. simp (lt-ltb ones 5 below) (omega arith))
    (λ at. simp (le-ltb ones 5 at) (omega arith))
    (cases_lt ones 5)
stuffed_after-pays ones (false ∷ text) few =
    ⊎_elim
    (λ below. simp (lt-ltb ones 5 below) (omega (arith, stuffed_after-pays 0 text (omega arith))))
    (λ at. simp (le-ltb ones 5 at) (omega (arith, stuffed_after-pays 0 text (omega arith))))
    (cases_lt ones 5)
stuffed_after-pays ones (true ∷ text) few =
    ⊎_elim
    (λ below. simp (lt-ltb ones 5 below) (omega (arith, stuffed_after-pays (suc ones) text (omega arith))))
    (λ at. simp (le-ltb ones 5 at) (omega (arith, stuffed_after-pays 1 text (omega arith))))
    (cases_lt ones 5)

-- and no bit is left out
pub stuffed_after-at_least : (ones : ℕ) (text : List Bool) → length text ≤ length (stuffed_after ones text)
stuffed_after-at_least ones [] = omega arith
stuffed_after-at_least ones (false ∷ text) =
    omega (arith, length-append (stuffed_zero ones) (false ∷ stuffed_after 0 text), stuffed_after-at_least 0 text)
stuffed_after-at_least ones (true ∷ text) =
    let more = suc (ones_left ones) in
    omega (arith, length-append (stuffed_zero ones) (true ∷ stuffed_after more text), stuffed_after-at_least more text)
