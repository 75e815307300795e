-- What is read: of two that are written before anything else, the same octets are of the same one.
use Rattle.std.proofs.Common.{arith, ◌≡◌, ℕ, zero, suc, ◌*◌, ◌/◌, ◌%◌, ◌^◌, ◌<◌, ◌≤◌, List, [], ◌∷◌, ◌++◌, length, drop, refl, sym, ap, ◌∙◌, subst, append_assoc, length-append}
use Rattle.std.specs.List.{AllZip}
use Rattle.std.specs.Prelude.{All, Err, Ok, OnErr, flat_map}
use Rattle.std.specs.declared.result.Result.{Result}
use Rattle.std.proofs.Math.Nat.{pow-suc}
use Rattle.std.proofs.lemmas.List.Elements.{All-head, All-tail}
use Rattle.std.proofs.lemmas.Nat.{div_below}
use Rattle.std.proofs.Common.{lit<}
use Rattle.lapd_image.specs.Numbers.{number, list_of, contents}

abbrev first_or : {X : Type 0} → X → List X → X
first_or d [] = d
first_or d (x ∷ xs) = x

-- the first of two lists that are one, and the others
pub heads : {X : Type 0} {x y : X} {xs ys : List X} → x ∷ xs ≡ y ∷ ys → x ≡ y
heads {X} {x} e = ap (first_or x) e

pub tails : {X : Type 0} {x y : X} {xs ys : List X} → x ∷ xs ≡ y ∷ ys → xs ≡ ys
tails {X} e = ap (λ (l : List X). drop 1 l) e

-- what stands before two lists and before others
pub split : {X : Type 0} (u v w x r s : List X) → (u ++ v) ++ r ≡ (w ++ x) ++ s → u ++ (v ++ r) ≡ w ++ (x ++ s)
split u v w x r s e = sym (append_assoc u v r) ∙ e ∙ append_assoc w x s

-- Two of which this holds, each before others, have the same octets only if they are the same and the others are.
abbrev pub Reads : {A : Type 0} → (A → Type 0) → (A → A → Type 0) → (A → List ℕ) → Type 0
Reads {A} Sound Same f = (a b : A) (r s : List ℕ) → Sound a → Sound b → f a ++ r ≡ f b ++ s → Same a b × (r ≡ s)

-- a number that fits into so many octets
pub number-read : (count n m : ℕ) (r s : List ℕ) → n < 256 ^ count → m < 256 ^ count → number count n ++ r ≡ number count m ++ s → (n ≡ m) × (r ≡ s)
unfolding number
number-read zero n m r s small below e = (omega (arith, small, below), e)
number-read (suc count) n m r s small below e =
    let fits : (k : ℕ) → k < 256 ^ suc count → k / 256 < 256 ^ count =
    λ k h. div_below k 256 (256 ^ count) (lit< tt) (subst (λ p. k < p) (pow-suc 256 count) h) in
    let rest : (n / 256 ≡ m / 256) × (r ≡ s) = number-read count (n / 256) (m / 256) r s (fits n small) (fits m below) (tails e) in
    let low : n % 256 ≡ m % 256 = heads e in
    let high : n / 256 ≡ m / 256 = rest.0 in
    (omega (arith, low, high), rest.1)

-- two lists of one length, before others
pub front-read : (xs ys r s : List ℕ) → length xs ≡ length ys → xs ++ r ≡ ys ++ s → (xs ≡ ys) × (r ≡ s)
front-read [] [] r s l e = (refl, e)
front-read [] (y ∷ ys) r s l e = absurd (omega (arith, l))
front-read (x ∷ xs) [] r s l e = absurd (omega (arith, l))
front-read (x ∷ xs) (y ∷ ys) r s l e =
    let rest : (xs ≡ ys) × (r ≡ s) = front-read xs ys r s (omega (arith, l)) (tails e) in
    let head : x ≡ y = heads e in
    ((λ i. head i ∷ rest.0 i), rest.1)

-- contents of fewer than 65,536 octets
pub contents-read : Reads (λ (c : List ℕ). length c < 65536) (λ (c d : List ℕ). c ≡ d) contents
contents-read c d r s small below e =
    let size : (length c ≡ length d) × (c ++ r ≡ d ++ s) =
    number-read 2 (length c) (length d) (c ++ r) (d ++ s) small below (split (number 2 (length c)) c (number 2 (length d)) d r s e) in
    front-read c d r s size.0 size.1

-- Members one after the other, of two lists of one length.
module _ {A : Type 0} (Sound : A → Type 0) (Same : A → A → Type 0) (f : A → List ℕ) (each : Reads Sound Same f) where
  pub all-read : (xs ys : List A) (r s : List ℕ) → length xs ≡ length ys → All Sound xs → All Sound ys
      → flat_map f xs ++ r ≡ flat_map f ys ++ s → AllZip Same xs ys × (r ≡ s)
  all-read [] [] r s l sound also e = (tt, e)
  all-read [] (y ∷ ys) r s l sound also e = absurd (omega (arith, l))
  all-read (x ∷ xs) [] r s l sound also e = absurd (omega (arith, l))
  all-read (x ∷ xs) (y ∷ ys) r s l sound also e =
      let one : Same x y × (flat_map f xs ++ r ≡ flat_map f ys ++ s) =
      each x y (flat_map f xs ++ r) (flat_map f ys ++ s) (All-head Sound x xs sound) (All-head Sound y ys also)
      (split (f x) (flat_map f xs) (f y) (flat_map f ys) r s e) in
      let rest : AllZip Same xs ys × (r ≡ s) =
      all-read xs ys r s (omega (arith, l)) (All-tail Sound x xs sound) (All-tail Sound y ys also) one.1 in
      ((one.0, rest.0), rest.1)

-- two lists whose members are one by one equal
pub same-lists : {A : Type 0} (xs ys : List A) → AllZip (λ (x y : A). x ≡ y) xs ys → xs ≡ ys
same-lists [] [] same = refl
same-lists [] (y ∷ ys) same = absurd same
same-lists (x ∷ xs) [] same = absurd same
same-lists (x ∷ xs) (y ∷ ys) same = let rest : xs ≡ ys = same-lists xs ys same.1 in λ i. same.0 i ∷ rest i

-- The same where they are equal; and with the count before them.
module _ {A : Type 0} (Sound : A → Type 0) (f : A → List ℕ) (each : Reads Sound (λ (x y : A). x ≡ y) f) where
  pub equal-read : (xs ys : List A) (r s : List ℕ) → length xs ≡ length ys → All Sound xs → All Sound ys
      → flat_map f xs ++ r ≡ flat_map f ys ++ s → (xs ≡ ys) × (r ≡ s)
  equal-read xs ys r s l sound also e =
      let read : AllZip (λ (x y : A). x ≡ y) xs ys × (r ≡ s) = all-read Sound (λ (x y : A). x ≡ y) f each xs ys r s l sound also e in
      (same-lists xs ys read.0, read.1)

  pub list-read : Reads (All Sound) (λ (xs ys : List A). xs ≡ ys) (list_of f)
  list-read xs ys r s sound also e = equal-read xs ys r s (heads e) sound also (tails e)

-- what needs no range is so of all members
pub all-unit : {A : Type 0} (xs : List A) → All (λ (x : A). Unit {0}) xs
all-unit xs = λ k d h. tt

-- What holds anyway is so if a call has failed.
pub on_err : {T E P : Type 0} (r : Result T E) → P → OnErr r P
on_err (Ok x) p = tt
on_err (Err e) p = p

-- so many octets
pub length-number : (count n : ℕ) → length (number count n) ≡ count
unfolding number
length-number zero n = refl
length-number (suc count) n = ap suc (length-number count (n / 256))

-- Too few octets are left for what stands before others.
pub too_few : {count : ℕ} {front : List ℕ} (part rest : List ℕ) → length front < count → count ≤ length part → front ≡ part ++ rest → ⊥
too_few part rest few size e = omega (arith, few, size, ap (λ (l : List ℕ). length l) e, length-append part rest)

pub no_number : (count n : ℕ) {front : List ℕ} (rest : List ℕ) → length front < count → front ≡ number count n ++ rest → ⊥
no_number count n rest few e = too_few (number count n) rest few (omega (arith, length-number count n)) e

-- members of so many octets each
pub length-each : {A : Type 0} (f : A → List ℕ) (size : ℕ) → ((x : A) → length (f x) ≡ size) → (xs : List A) → length (flat_map f xs) ≡ length xs * size
length-each f size each [] = omega arith
length-each f size each (x ∷ xs) = omega (arith, length-append (f x) (flat_map f xs), each x, length-each f size each xs)
