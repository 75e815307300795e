-- What is seen by computing a test for each number below another.
use Rattle.lapd_bits.proofs.Vocabulary.{◌≡◌, ℕ, ◌<◌, Bool, true, false, get_or, map, replicate, sym, ap, ◌∙◌, arith, range_with_len, get_or-replicate, get_or-map-range_with_len}

-- each number below another passes a test that all of them pass
pub all_pass : (test : ℕ → Bool) (n place : ℕ) → map test (range_with_len 0 n) ≡ replicate n true → place < n → test place ≡ true
all_pass test n place all small =
    sym (get_or-map-range_with_len test 0 n place place false small (omega arith))
    ∙ ap (λ t. get_or t place false) all ∙ get_or-replicate n place true false small
