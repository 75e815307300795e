-- Lists whose members stand for one another, one by one.
use Rattle.lapd_sim.proofs.Vocabulary.{◌≡◌, ℕ, zero, suc, ◌+◌, ◌<◌, Bool, true, false, if◌then◌else◌, List, [], ◌∷◌, ◌++◌, length, get_or, set, replicate, sym, subst, arith, suc-eq-add-one, Each}
use Rattle.std.proofs.Common.{true≢false}

pub each_at : {A B : Type 0} (R : A → B → Type 0) (xs : List A) (ys : List B) (i : ℕ) (x : A) (y : B) → i < length xs → Each R xs ys → R (get_or xs i x) (get_or ys i y)
each_at R [] ys i x y h e = absurd (omega (arith, h))
each_at R (a ∷ xs) [] i x y h e = absurd e
each_at R (a ∷ xs) (b ∷ ys) zero x y h e = e.0
each_at R (a ∷ xs) (b ∷ ys) (suc i) x y h e = each_at R xs ys i x y (omega (arith, h)) e.1

pub each_set : {A B : Type 0} (R : A → B → Type 0) (xs : List A) (ys : List B) (i : ℕ) (x : A) (y : B) → R x y → Each R xs ys → Each R (set xs i x) (set ys i y)
each_set R [] [] i x y r e = e
each_set R (a ∷ xs) (b ∷ ys) zero x y r e = (r, e.1)
each_set R (a ∷ xs) (b ∷ ys) (suc i) x y r e = (e.0, each_set R xs ys i x y r e.1)
each_set R _ _ i x y r e = absurd e

-- and one more
each_next : {A B : Type 0} (R : A → B → Type 0) (n : ℕ) (xs : List A) (x : A) (y : B) → Each R xs (replicate n y) → R x y → Each R (xs ++ x ∷ []) (replicate (suc n) y)
each_next R zero [] x y h r = (r, tt)
each_next R (suc n) (a ∷ xs) x y h r = (h.0, each_next R n xs x y h.1 r)
each_next R _ _ x y h r = absurd h

-- one more that is like the others
pub each_more : {A B : Type 0} (R : A → B → Type 0) (n : ℕ) (xs : List A) (x : A) (y : B) → Each R xs (replicate n y) → R x y → Each R (xs ++ x ∷ []) (replicate (n + 1) y)
each_more R n xs x y h r = subst (λ k. Each R (xs ++ x ∷ []) (replicate k y)) (suc-eq-add-one n) (each_next R n xs x y h r)

-- pushed where there was room
pub each_pushed : {A B : Type 0} (R : A → B → Type 0) (n : ℕ) (xs ys others : List A) (x : A) (y : B) (ok : Bool) → true ≡ ok
    → ys ≡ (if ok then xs ++ x ∷ [] else others) → Each R xs (replicate n y) → R x y → Each R ys (replicate (n + 1) y)
each_pushed R n xs ys others x y true is pushed h r = subst (λ list. Each R list (replicate (n + 1) y)) (sym pushed) (each_more R n xs x y h r)
each_pushed R n xs ys others x y false is pushed h r = absurd (true≢false is)
