-- Facts of lists that several files use, and what follows in each case.
use Rattle.std.proofs.Common.{◌≡◌, ◌⊎◌, Bool, true, false, Option, None, Some, inl, inr, List, [], ◌∷◌, ◌++◌, refl}

-- A list with something in it is not empty.
pub some-in : {A : Type 0} (xs : List A) (x : A) (ys : List A) → [] ≡ xs ++ x ∷ ys → ⊥
some-in [] x ys is = cc is
some-in (y ∷ xs) x ys is = cc is

-- Where two lists make an empty one, both are empty.
pub none-of-both : {A : Type 0} (xs ys : List A) → xs ++ ys ≡ [] → (xs ≡ []) × (ys ≡ [])
none-of-both [] ys e = (refl, e)
none-of-both (x ∷ xs) ys e = absurd (cc e)

-- So the first is.
pub front-none : {A : Type 0} (xs ys : List A) → xs ++ ys ≡ [] → xs ≡ []
front-none xs ys e = (none-of-both xs ys e).0

-- What follows in each case holds: of a truth value, of an option, of either of two.
pub by-bool : {X : Type 0} (b : Bool) → (b ≡ true → X) → (b ≡ false → X) → X
by-bool true first second = first refl
by-bool false first second = second refl

pub by-option : {A X : Type 0} (o : Option A) → (o ≡ None → X) → ((x : A) → o ≡ Some x → X) → X
by-option None first second = first refl
by-option (Some x) first second = second x refl

pub by-either : {A B X : Type 0} → A ⊎ B → (A → X) → (B → X) → X
by-either (inl a) first second = first a
by-either (inr b) first second = second b
