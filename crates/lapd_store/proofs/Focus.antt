-- One of several owners taken out of their list and put back: what a call on one owner does, it does among all. A level
-- above applies what is said of one owner `for every list of others` to `rest`, and then `back`.
use Rattle.lapd_store.proofs.Vocabulary.{◌≡◌, ℕ, ◌+◌, ◌<◌, List, [], ◌∷◌, ◌++◌, length, refl, sym, ap, subst, ◌∙◌, append_assoc, length-append, get_or, set, arith, All-head, All-tail, All-get_or, All-set, sum_by-cons, length-zip, get_or-zip, All, flat_map, remove, sum_by, zip, Owned, owned_octets, Store}
use Rattle.lapd_store.specs.Ownership.{Holds}
use Rattle.lapd_store.proofs.Ownership.{Holds-take_out, Holds-put_back, Holds-second, owned_octets-append}
use Rattle.lapd_store.proofs.Queues.{zip-set}

-- The owner x at place i of a list of owners, taken out: P holds of it, the store holds its pairs and the rest, and
-- whatever it and the store are afterwards, it can be put back.
pub record Focus {X : Type 0} (f : X → List Owned) (P : X → Type 0) (s : Store) (xs : List X) (i : ℕ) (x : X) (others : List Owned) : Type 0 where
  pub rest : List Owned
  pub holds : P x
  pub held : Holds s (f x ++ rest)
  pub back : (t : Store) (y : X) → P y → Holds t (f y ++ rest) → All P (set xs i y) × Holds t (flat_map f (set xs i y) ++ others)

pub focus : {X : Type 0} (f : X → List Owned) (P : X → Type 0) (s : Store) (xs : List X) (i : ℕ) (x : X) (others : List Owned) → i < length xs → x ≡ get_or xs i x → All P xs → Holds s (flat_map f xs ++ others) → Focus f P s xs i x others
focus f P s xs i x others within is all held =
    record {
      rest = flat_map f (remove xs i) ++ others;
      holds = subst P (sym is) (All-get_or P xs i x within all);
      held = Holds-take_out f xs i x others within is held;
      back = λ t y p h. (All-set P xs i y p all, put_back t y h);
    }
  where
    put_back : (t : Store) (y : _) → Holds t (f y ++ (flat_map f (remove xs i) ++ others)) → Holds t (flat_map f (set xs i y) ++ others)
    put_back t y h = Holds-put_back f xs i y others within h

-- The same of values and machines in step, where the owners are the pairs of them at the same places.
pub record FocusPair {X Y : Type 0} (f : X × Y → List Owned) (P : X × Y → Type 0) (s : Store) (xs : List X) (ys : List Y) (i : ℕ) (x : X) (y : Y) (others : List Owned) : Type 0 where
  pub rest : List Owned
  pub holds : P (x, y)
  pub held : Holds s (f (x, y) ++ rest)
  pub back : (t : Store) (u : X) (v : Y) → P (u, v) → Holds t (f (u, v) ++ rest)
      → All P (zip (set xs i u) (set ys i v)) × Holds t (flat_map f (zip (set xs i u) (set ys i v)) ++ others)

pub focus_pair : {X Y : Type 0} (f : X × Y → List Owned) (P : X × Y → Type 0) (s : Store) (xs : List X) (ys : List Y) (i : ℕ) (x : X) (y : Y) (others : List Owned) → i < length xs → i < length ys → x ≡ get_or xs i x → y ≡ get_or ys i y → All P (zip xs ys) → Holds s (flat_map f (zip xs ys) ++ others) → FocusPair f P s xs ys i x y others
focus_pair f P s xs ys i x y others first second is_x is_y all held =
    let within : i < length (zip xs ys) = omega (arith, first, second, length-zip xs ys) in
    let is : (x, y) ≡ get_or (zip xs ys) i (x, y) = ap (λ u. (u, y)) is_x ∙ ap (λ v. (get_or xs i x, v)) is_y ∙ sym (get_or-zip xs ys i (x, y) first second) in
    let one = focus f P s (zip xs ys) i (x, y) others within is all held in
    record {
      rest = one.rest;
      holds = one.holds;
      held = one.held;
      back = λ t u v p h. subst (λ l. All P l × Holds t (flat_map f l ++ others)) (sym (zip-set xs ys i u v)) (one.back t (u, v) p h);
    }

-- A part of what one owner has: the rest, and the whole again, whatever the part is afterwards.
pub record Part (s : Store) (own : List Owned) (whole : List Owned → List Owned) : Type 0 where
  pub rest : List Owned
  pub held : Holds s (own ++ rest)
  pub back : (t : Store) (new : List Owned) → Holds t (new ++ rest) → Holds t (whole new)

-- the second of two lists that an owner has
pub second_part : (s : Store) (first own others : List Owned) → Holds s ((first ++ own) ++ others) → Part s own (λ new. (first ++ new) ++ others)
second_part s first own others held =
    record {
      rest = first ++ others;
      held = Holds-second first own others (subst (Holds s) (append_assoc first own others) held);
      back = λ t new h. subst (Holds t) (sym (append_assoc first new others)) (Holds-second new first others h);
    }

-- where each owner's octets are as many as its machine says, those of all are the sum over the machines
pub octets-machines : {X Y : Type 0} (f : X × Y → List Owned) (g : Y → ℕ) (xs : List X) (ys : List Y) → length xs ≡ length ys → All (λ p. owned_octets (f p) ≡ g p.1) (zip xs ys) → owned_octets (flat_map f (zip xs ys)) ≡ sum_by g ys
octets-machines f g [] [] same all = refl
octets-machines f g [] (y ∷ ys) same all = absurd (omega arith)
octets-machines f g (x ∷ xs) [] same all = absurd (omega arith)
octets-machines f g (x ∷ xs) (y ∷ ys) same all =
    owned_octets-append (f (x, y)) (flat_map f (zip xs ys))
    ∙ ap (λ n. n + owned_octets (flat_map f (zip xs ys))) (All-head (λ p. owned_octets (f p) ≡ g p.1) (x, y) (zip xs ys) all)
    ∙ ap (λ n. g y + n) (octets-machines f g xs ys (omega arith) (All-tail (λ p. owned_octets (f p) ≡ g p.1) (x, y) (zip xs ys) all))
    ∙ sym (sum_by-cons g y ys)

-- and so are their slots
pub slots-machines : {X Y : Type 0} (f : X × Y → List Owned) (g : Y → ℕ) (xs : List X) (ys : List Y) → length xs ≡ length ys → All (λ p. length (f p) ≡ g p.1) (zip xs ys) → length (flat_map f (zip xs ys)) ≡ sum_by g ys
slots-machines f g [] [] same all = refl
slots-machines f g [] (y ∷ ys) same all = absurd (omega arith)
slots-machines f g (x ∷ xs) [] same all = absurd (omega arith)
slots-machines f g (x ∷ xs) (y ∷ ys) same all =
    length-append (f (x, y)) (flat_map f (zip xs ys))
    ∙ ap (λ n. n + length (flat_map f (zip xs ys))) (All-head (λ p. length (f p) ≡ g p.1) (x, y) (zip xs ys) all)
    ∙ ap (λ n. g y + n) (slots-machines f g xs ys (omega arith) (All-tail (λ p. length (f p) ≡ g p.1) (x, y) (zip xs ys) all))
    ∙ sym (sum_by-cons g y ys)
