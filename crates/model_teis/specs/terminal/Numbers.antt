-- The reference numbers Ri of a terminal (Q.921 clause 5.3.2 asks for numbers at random; which ones is profile).
use Rattle.std.specs.Prelude.{◌≡◌, ℕ, zero, suc, ◌+◌, ◌*◌, ◌%◌, ◌<◌}

-- Each number gives the next one.
abbrev pub next_number : ℕ → ℕ
next_number number = (25173 * number + 13849) % 65536

-- the number after so many others, from a seed on
unfoldable pub number_after : ℕ → ℕ → ℕ
number_after zero seed = seed
number_after (suc count) seed = next_number (number_after count seed)

-- No number comes again before all 65,536 of them have come, and then they come again in the same order.
abbrev pub NoneComesAgain : Type 0
NoneComesAgain = (seed i j : ℕ) → seed < 65536 → i < j → j < i + 65536 → number_after i seed ≡ number_after j seed → ⊥

abbrev pub AllComeAgain : Type 0
AllComeAgain = (seed i : ℕ) → seed < 65536 → number_after (i + 65536) seed ≡ number_after i seed
