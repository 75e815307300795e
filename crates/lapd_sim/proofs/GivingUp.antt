-- Which TEIs are on a line.
use Rattle.lapd_sim.proofs.Vocabulary.{◌≡◌, ℕ, ◌+◌, ◌<◌, Bool, true, false, cond, List, [], ◌∷◌, ◌++◌, length, take, set, filter, append-nil, sym, ap, ◌∙◌, arith, take_more_set, range_with_len, map-id, filter_of_map_range_with_len_more}

-- one number more is looked at
one_more : (p : ℕ → Bool) (n : ℕ) → filter p (range_with_len 0 (n + 1)) ≡ filter p (range_with_len 0 n) ++ cond (p n) (n ∷ []) []
one_more p n =
    ap (filter p) (sym (map-id (range_with_len 0 (n + 1))))
    ∙ filter_of_map_range_with_len_more p (λ x. x) 0 n n (omega arith)
    ∙ ap (λ xs. filter p xs ++ cond (p n) (n ∷ []) []) (map-id (range_with_len 0 n))

-- it is found, or not
pub found : (p : ℕ → Bool) (n count : ℕ) (room : List ℕ) → p n ≡ true → count < length room
    → take count room ≡ filter p (range_with_len 0 n) → take (count + 1) (set room count n) ≡ filter p (range_with_len 0 (n + 1))
found p n count room is less so_far = grind (arith, take_more_set, one_more)

pub not_found : (p : ℕ → Bool) (n : ℕ) (so_far : List ℕ) → p n ≡ false → so_far ≡ filter p (range_with_len 0 n) → so_far ≡ filter p (range_with_len 0 (n + 1))
not_found p n so_far is same = grind (arith, append-nil, one_more)
