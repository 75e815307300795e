-- Octets that were written, place by place and as a run.
use Rattle.lapd_store.proofs.Vocabulary.{◌≡◌, ℕ, ◌+◌, ◌<◌, ◌≤◌, List, [], ◌∷◌, map, length, take, drop, get_or, slice_get, Option, Some, None, refl, sym, ◌∙◌, arith, length-take, length-drop, get_or-take, get_or-drop, ext_get_or, length-map, Holds}
use Prim.Native.Nat.{zero, suc}

get_some : (xs : List ℕ) (i : ℕ) → get_or (map Some xs) i None ≡ slice_get xs i
get_some [] i = refl
get_some (x ∷ xs) zero = refl
get_some (x ∷ xs) (suc i) = get_some xs i

-- what was written lies there as a run
pub run_of : (cs : List (Option ℕ)) (from : ℕ) (xs : List ℕ) → from + length xs ≤ length cs → Holds cs from xs → take (length xs) (drop from cs) ≡ map Some xs
run_of cs from xs within holds =
    ext_get_or None (take (length xs) (drop from cs)) (map Some xs)
    (omega (arith, length-take (length xs) (drop from cs), length-drop from cs, length-map xs Some))
    (λ k lt. let less : k < length xs = omega (arith, lt, length-take (length xs) (drop from cs)) in
    get_or-take (length xs) (drop from cs) k None less ∙ get_or-drop from cs k None ∙ holds k less ∙ sym (get_some xs k))

-- and such a run was written
pub holds_run : (cs : List (Option ℕ)) (from n : ℕ) (xs : List ℕ) → take n (drop from cs) ≡ map Some xs → Holds cs from xs
holds_run cs from n xs run k lt = grind (arith, length-map, length-take, get_or-drop, get_or-take, get_some)
