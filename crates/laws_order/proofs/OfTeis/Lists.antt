-- What is in a list of assignments, and what passes a test in a list.
use Rattle.std.specs.Prelude.{◌≡◌, ℕ, zero, suc, ◌==◌, ◌&&◌, ◌||◌, ◌⊎◌, not, Bool, true, false, cond, List, [], ◌∷◌, ◌++◌, filter, drop, Some, None, refl}
use Rattle.std.specs.List.{list_any, find}
use Rattle.std.proofs.Common.{inl, inr, subst, sym, ap, ◌∙◌, true≢false, eqb-true, eq-eqb}
use Rattle.std.proofs.lemmas.List.Folds.{list_any-append}
use Rattle.model_teis.specs.declared.network.remembered.Remembered.{Remembered}
use Rattle.std.proofs.lemmas.Bool.{and_parts}
use Rattle.laws_order.specs.teis.Assignments.{IsIn}
use Rattle.laws_order.specs.teis.Bus.{is_among, over_of}
use Rattle.laws_order.specs.teis.TwoTerminals.{is_older}

pub in-left : (r : Remembered) (xs ys : List Remembered) → IsIn r xs → IsIn r (xs ++ ys)
in-left r [] ys is = absurd is
in-left r (x ∷ xs) ys (inl is) = inl is
in-left r (x ∷ xs) ys (inr more) = inr (in-left r xs ys more)

pub in-right : (r : Remembered) (xs ys : List Remembered) → IsIn r ys → IsIn r (xs ++ ys)
in-right r [] ys is = is
in-right r (x ∷ xs) ys is = inr (in-right r xs ys is)

pub in-either : (r : Remembered) (xs ys : List Remembered) → IsIn r (xs ++ ys) → IsIn r xs ⊎ IsIn r ys
in-either r [] ys is = inr is
in-either r (x ∷ xs) ys (inl is) = inl (inl is)
in-either r (x ∷ xs) ys (inr more) = go (in-either r xs ys more)
  where
    go : IsIn r xs ⊎ IsIn r ys → IsIn r (x ∷ xs) ⊎ IsIn r ys
    go (inl is) = inl (inr is)
    go (inr is) = inr is

pub in-filter : (p : Remembered → Bool) (r : Remembered) (xs : List Remembered) → IsIn r xs → p r ≡ true → IsIn r (filter p xs)
in-filter p r [] is passes = absurd is
in-filter p r (x ∷ xs) (inl is) passes = subst (λ b. IsIn r (cond b (x ∷ filter p xs) (filter p xs))) (sym (ap p is ∙ passes)) (inl is)
in-filter p r (x ∷ xs) (inr more) passes = go (p x) (in-filter p r xs more passes)
  where
    go : (b : Bool) → IsIn r (filter p xs) → IsIn r (cond b (x ∷ filter p xs) (filter p xs))
    go true is = inr is
    go false is = is

pub in-filtered : (p : Remembered → Bool) (r : Remembered) (xs : List Remembered) → IsIn r (filter p xs) → IsIn r xs × (p r ≡ true)
in-filtered p r [] is = absurd is
in-filtered p r (x ∷ xs) is = go (p x) refl is (in-filtered p r xs)
  where
    go : (b : Bool) → p x ≡ b → IsIn r (cond b (x ∷ filter p xs) (filter p xs)) → (IsIn r (filter p xs) → IsIn r xs × (p r ≡ true)) → IsIn r (x ∷ xs) × (p r ≡ true)
    go true so (inl same) rest = (inl same, sym (ap p same) ∙ so)
    go true so (inr more) rest = (inr (rest more).0, (rest more).1)
    go false so more rest = (inr (rest more).0, (rest more).1)

pub in-dropped : (k : ℕ) (r : Remembered) (xs : List Remembered) → IsIn r (drop k xs) → IsIn r xs
in-dropped zero r xs is = is
in-dropped (suc k) r [] is = is
in-dropped (suc k) r (x ∷ xs) is = inr (in-dropped k r xs is)

pub in-found : (p : Remembered → Bool) (r : Remembered) (xs : List Remembered) → find p xs ≡ Some r → IsIn r xs × (p r ≡ true)
in-found p r [] found = absurd (none-is found)
  where
    none-is : {r : Remembered} → None ≡ Some r → ⊥
    none-is e = cc e
in-found p r (x ∷ xs) found = go (p x) refl found (in-found p r xs)
  where
    go : (b : Bool) → p x ≡ b → cond b (Some x) (find p xs) ≡ Some r → (find p xs ≡ Some r → IsIn r xs × (p r ≡ true)) → IsIn r (x ∷ xs) × (p r ≡ true)
    go true so is rest = let same : x ≡ r = cc in (inl same, sym (ap p same) ∙ so)
    go false so is rest = (inr (rest is).0, (rest is).1)

pub found-passes : {X : Type 0} (p : X → Bool) (x : X) (xs : List X) → find p xs ≡ Some x → p x ≡ true
found-passes p x [] found = absurd (cc)
found-passes p x (y ∷ xs) found = go (p y) refl found (found-passes p x xs)
  where
    go : (b : Bool) → p y ≡ b → cond b (Some y) (find p xs) ≡ Some x → (find p xs ≡ Some x → p x ≡ true) → p x ≡ true
    go true so is rest = let same : y ≡ x = cc in sym (ap p same) ∙ so
    go false so is rest = rest is

-- tests
pub or-left-so : (a b : Bool) → a ≡ true → (a || b) ≡ true
or-left-so a b is = ap (λ a. a || b) is

pub or-right-so : (a b : Bool) → b ≡ true → (a || b) ≡ true
or-right-so true b is = refl
or-right-so false b is = is

pub or-cases : (a b : Bool) → (a || b) ≡ true → (a ≡ true) ⊎ (b ≡ true)
or-cases true b is = inl refl
or-cases false b is = inr is

pub any-left : {X : Type 0} (p : X → Bool) (xs ys : List X) → list_any p xs ≡ true → list_any p (xs ++ ys) ≡ true
any-left p xs ys is = list_any-append p xs ys ∙ or-left-so _ _ is

pub any-right : {X : Type 0} (p : X → Bool) (xs ys : List X) → list_any p ys ≡ true → list_any p (xs ++ ys) ≡ true
any-right p xs ys is = list_any-append p xs ys ∙ or-right-so (list_any p xs) _ is

pub any-either : {X : Type 0} (p : X → Bool) (xs ys : List X) → list_any p (xs ++ ys) ≡ true → (list_any p xs ≡ true) ⊎ (list_any p ys ≡ true)
any-either p xs ys is = or-cases _ _ (sym (list_any-append p xs ys) ∙ is)

pub any-kept : {X : Type 0} (p q : X → Bool) (xs : List X) → ((x : X) → p x ≡ true → q x ≡ true) → list_any p xs ≡ true → list_any p (filter q xs) ≡ true
any-kept p q [] so is = is
any-kept p q (x ∷ xs) so is = go (p x) (q x) refl refl is (any-kept p q xs so)
  where
    go : (a b : Bool) → p x ≡ a → q x ≡ b → (a || list_any p xs) ≡ true → (list_any p xs ≡ true → list_any p (filter q xs) ≡ true) → list_any p (cond b (x ∷ filter q xs) (filter q xs)) ≡ true
    go true true ps qs found rest = or-left-so (p x) (list_any p (filter q xs)) ps
    go true false ps qs found rest = absurd (true≢false (sym (so x ps) ∙ qs))
    go false true ps qs found rest = or-right-so (p x) (list_any p (filter q xs)) (rest found)
    go false false ps qs found rest = rest found

-- An assignment that is found by its parts is there.
pub is-there : (r : Remembered) (all : List Remembered) → is_among r all ≡ true → IsIn r all
is-there r [] is = absurd (true≢false (sym is))
is-there r (one ∷ more) is = go (or-cases (one.ri == r.ri && one.tei == r.tei) (is_among r more) is) (is-there r more)
  where
    go : ((one.ri == r.ri && one.tei == r.tei) ≡ true) ⊎ (is_among r more ≡ true) → (is_among r more ≡ true → IsIn r more) → IsIn r (one ∷ more)
    go (inl same) rest =
        let parts = and_parts (one.ri == r.ri) (one.tei == r.tei) same in
        inl (ap (λ n. record one { ri = n }) (eqb-true one.ri r.ri parts.0) ∙ ap (λ n. record { ri = r.ri; tei = n }) (eqb-true one.tei r.tei parts.1))
    go (inr there) rest = inr (rest there)

-- An assignment holds, or is over.
pub held-or-over : (r : Remembered) (hold all : List Remembered) → IsIn r all → IsIn r hold ⊎ IsIn r (over_of hold all)
held-or-over r hold all is = go (is_among r hold) refl
  where
    go : (x : Bool) → is_among r hold ≡ x → IsIn r hold ⊎ IsIn r (over_of hold all)
    go true among = inl (is-there r hold among)
    go false among = inr (in-filter (λ r. not (is_among r hold)) r all is (ap not among))

-- One that is there is found by its parts.
pub among-so : (r : Remembered) (all : List Remembered) → IsIn r all → is_among r all ≡ true
among-so r [] is = absurd is
among-so r (one ∷ more) (inl same) =
    or-left-so (one.ri == r.ri && one.tei == r.tei) (is_among r more)
    (subst (λ (one : Remembered). (one.ri == r.ri && one.tei == r.tei) ≡ true) (sym same) (ap (λ x. x && r.tei == r.tei) (eq-eqb r.ri r.ri refl) ∙ eq-eqb r.tei r.tei refl))
among-so r (one ∷ more) (inr there) = or-right-so (one.ri == r.ri && one.tei == r.tei) (is_among r more) (among-so r more there)

module _ (one two : Remembered) where
  abbrev or_first : Remembered → Bool → List Remembered → Type 0
  or_first x again xs = cond again (is_older one two xs) (is_among one (x ∷ []) && is_among two xs) ≡ true

  -- Others are made after these.
  module _ (ys : List Remembered) (none : is_among one ys ≡ false) where
    not-again : (xs : List Remembered) → is_among one xs ≡ false → is_among one (xs ++ ys) ≡ false
    not-again xs off = list_any-append (λ (r : Remembered). r.ri == one.ri && r.tei == one.tei) xs ys ∙ ap (λ x. x || is_among one ys) off ∙ none

    among-more : (r : Remembered) (xs : List Remembered) → is_among r xs ≡ true → is_among r (xs ++ ys) ≡ true
    among-more r xs is = any-left (λ (x : Remembered). x.ri == r.ri && x.tei == r.tei) xs ys is

    -- It is the first of the list, and not again in it.
    first-so : (x : Remembered) (xs : List Remembered) → is_among one xs ≡ false → is_among one (x ∷ []) ≡ true → is_among two (xs ++ ys) ≡ true → is_older one two (x ∷ xs ++ ys) ≡ true
    first-so x xs off is other =
        subst (λ again. or_first x again (xs ++ ys)) (sym (not-again xs off)) (ap (λ x. x && is_among two (xs ++ ys)) is ∙ other)

    -- The older stays older.
    pub older-kept : (xs : List Remembered) → is_older one two xs ≡ true → is_older one two (xs ++ ys) ≡ true
    older-kept [] is = absurd (true≢false (sym is))
    older-kept (x ∷ xs) is = go (is_among one xs) refl is (older-kept xs)
      where
        go : (again : Bool) → is_among one xs ≡ again → or_first x again xs → (is_older one two xs ≡ true → is_older one two (xs ++ ys) ≡ true) → is_older one two (x ∷ xs ++ ys) ≡ true
        go true so is rest = subst (λ again. or_first x again (xs ++ ys)) (sym (among-more one xs so)) (rest is)
        go false so is rest =
            let parts = and_parts (is_among one (x ∷ [])) (is_among two xs) is in
            first-so x xs so parts.0 (among-more two xs parts.1)

    -- One is older than what is made after it.
    pub older-new : (xs : List Remembered) → IsIn one xs → IsIn two ys → is_older one two (xs ++ ys) ≡ true
    older-new [] is later = absurd is
    older-new (x ∷ xs) is later = go (is_among one xs) refl is (older-new xs)
      where
        go : (again : Bool) → is_among one xs ≡ again → IsIn one (x ∷ xs) → (IsIn one xs → IsIn two ys → is_older one two (xs ++ ys) ≡ true) → is_older one two (x ∷ xs ++ ys) ≡ true
        go true so is rest = subst (λ again. or_first x again (xs ++ ys)) (sym (among-more one xs so)) (rest (is-there one xs so) later)
        go false so (inr more) rest = absurd (true≢false (sym (among-so one xs more) ∙ so))
        go false so (inl same) rest = first-so x xs so (among-so one (x ∷ []) (inl same)) (among-so two (xs ++ ys) (in-right two xs ys later))

-- Of two that are made, one is older.
pub one-older : (one two : Remembered) (xs : List Remembered) → IsIn one xs → IsIn two xs → (one ≡ two) ⊎ ((is_older one two xs ≡ true) ⊎ (is_older two one xs ≡ true))
one-older one two [] is other = absurd is
one-older one two (x ∷ xs) is other = go (is_among one xs) (is_among two xs) refl refl (one-older one two xs)
  where
    first-is : (r : Remembered) → IsIn r (x ∷ xs) → is_among r xs ≡ false → x ≡ r
    first-is r (inl same) off = same
    first-is r (inr more) off = absurd (true≢false (sym (among-so r xs more) ∙ off))

    Or : Type 0
    Or = (one ≡ two) ⊎ ((is_older one two xs ≡ true) ⊎ (is_older two one xs ≡ true))

    go : (a b : Bool) → is_among one xs ≡ a → is_among two xs ≡ b → (IsIn one xs → IsIn two xs → Or)
        → (one ≡ two) ⊎ ((cond a (is_older one two xs) (is_among one (x ∷ []) && b) ≡ true) ⊎ (cond b (is_older two one xs) (is_among two (x ∷ []) && a) ≡ true))
    go true true so too rest = rest (is-there one xs so) (is-there two xs too)
    go true false so too rest = inr (inr (ap (λ x. x && true) (among-so two (x ∷ []) (inl (first-is two other too)))))
    go false true so too rest = inr (inl (ap (λ x. x && true) (among-so one (x ∷ []) (inl (first-is one is so)))))
    go false false so too rest = inl (sym (first-is one is so) ∙ first-is two other too)
