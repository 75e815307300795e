-- Parts of images that are passed, one after the other.
use Rattle.std.proofs.Common.{arith, ◌≡◌, ℕ, zero, suc, ◌+◌, ◌-◌, ◌<◌, ◌≤◌, List, ◌∷◌, ◌++◌, append-nil, append_assoc, sym, ap, ◌∙◌}
use Rattle.std.specs.List.{range_with_len}
use Rattle.std.specs.Prelude.{flat_map}
use Rattle.std.proofs.lemmas.Grind.{flat_map-append}
use Rattle.lapd_image.specs.Puts.{Puts}
use Rattle.lapd_image.specs.Reads.{HasNone}
use Rattle.lapd_image.proofs.Puts.{puts-same, puts-then}
use Rattle.lapd_timed.specs.MomentsRead.{Passes}

-- as many numbers, and as many more
range-split : (a n m : ℕ) → range_with_len a (n + m) ≡ range_with_len a n ++ range_with_len (a + n) m
range-split a zero m =
    let none : zero + m ≡ m = omega arith in
    let from : a ≡ a + zero = omega arith in
    ap (range_with_len a) none ∙ ap (λ (k : ℕ). range_with_len k m) from
range-split a (suc n) m =
    let more : suc n + m ≡ suc (n + m) = omega arith in
    let from : (a + 1) + n ≡ a + suc n = omega arith in
    ap (range_with_len a) more ∙ ap (λ (ns : List ℕ). a ∷ ns) (range-split (a + 1) n m ∙ ap (λ (k : ℕ). range_with_len (a + 1) n ++ range_with_len k m) from)

flat-two : {A : Type 0} (f : ℕ → List A) (n m : ℕ) → flat_map f (range_with_len 0 (n + m)) ≡ flat_map f (range_with_len 0 n) ++ flat_map f (range_with_len n m)
flat-two f n m =
    let from : 0 + n ≡ n = omega arith in
    ap (flat_map f) (range-split 0 n m ∙ ap (λ (k : ℕ). range_with_len 0 n ++ range_with_len k m) from) ∙ flat_map-append f (range_with_len 0 n) (range_with_len n m)

pub flat-more : {A : Type 0} (f : ℕ → List A) (n : ℕ) → flat_map f (range_with_len 0 (n + 1)) ≡ flat_map f (range_with_len 0 n) ++ f n
flat-more f n = flat-two f n 1 ∙ ap (λ xs. flat_map f (range_with_len 0 n) ++ xs) (append-nil (f n))

flat-split : {A : Type 0} (f : ℕ → List A) (n count : ℕ) → n ≤ count → flat_map f (range_with_len 0 count) ≡ flat_map f (range_with_len 0 n) ++ flat_map f (range_with_len n (count - n))
flat-split f n count few =
    let all : count ≡ n + (count - n) = omega (arith, few) in
    ap (λ (k : ℕ). flat_map f (range_with_len 0 k)) all ∙ flat-two f n (count - n)

-- members are put, by their numbers
pub puts-number : (f : ℕ → List ℕ) (n : ℕ) {old mid new : List ℕ} {at between end : ℕ} → Puts (flat_map f (range_with_len 0 n)) at old between mid → Puts (f n) between mid end new
    → Puts (flat_map f (range_with_len 0 (n + 1))) at old end new
puts-number f n before one = puts-same (sym (flat-more f n)) (puts-then before one)

module _ {A : Type 0} {Has : A → Type 0} where
  pub passes-then : (f g : A → List ℕ) {old mid new : List ℕ} → Passes f Has old mid → Passes g Has mid new → Passes (λ a. f a ++ g a) Has old new
  passes-then f g {old} {mid} {new} first then a rest has e = then a rest has (first a (g a ++ rest) has (e ∙ append_assoc (f a) (g a) rest))

  pub none-first : (f g : A → List ℕ) {old : List ℕ} → HasNone f Has old → HasNone (λ a. f a ++ g a) Has old
  none-first f g {old} none a rest has e = none a (g a ++ rest) has (e ∙ append_assoc (f a) (g a) rest)

  pub none-then : (f g : A → List ℕ) {old mid : List ℕ} → Passes f Has old mid → HasNone g Has mid → HasNone (λ a. f a ++ g a) Has old
  none-then f g {old} {mid} first none a rest has e = none a rest has (first a (g a ++ rest) has (e ∙ append_assoc (f a) (g a) rest))

  pub passes-as : {f g : A → List ℕ} {old new : List ℕ} → ((a : A) → g a ≡ f a) → Passes f Has old new → Passes g Has old new
  passes-as {f} {g} {old} {new} same passes a rest has e = passes a rest has (e ∙ ap (λ octets. octets ++ rest) (same a))

  pub none-as : {f g : A → List ℕ} {old : List ℕ} → ((a : A) → g a ≡ f a) → HasNone f Has old → HasNone g Has old
  none-as {f} {g} {old} same none a rest has e = none a rest has (e ∙ ap (λ octets. octets ++ rest) (same a))

  -- Members, by their numbers: nothing, one more, and one that is not there.
  module _ (f : A → ℕ → List ℕ) where
    pub passes-number : (n : ℕ) {old mid new : List ℕ} → Passes (λ a. flat_map (f a) (range_with_len 0 n)) Has old mid → Passes (λ a. f a n) Has mid new
        → Passes (λ a. flat_map (f a) (range_with_len 0 (n + 1))) Has old new
    passes-number n {old} {mid} {new} before one = passes-as (λ a. flat-more (f a) n) (passes-then (λ a. flat_map (f a) (range_with_len 0 n)) (λ a. f a n) before one)

    pub none-number : (n count : ℕ) {old mid : List ℕ} → n < count → Passes (λ a. flat_map (f a) (range_with_len 0 n)) Has old mid → HasNone (λ a. f a n) Has mid
        → HasNone (λ a. flat_map (f a) (range_with_len 0 count)) Has old
    none-number n count {old} {mid} within before none =
        none-as (λ a. flat-split (f a) (n + 1) count (omega (arith, within)) ∙ ap (λ octets. octets ++ flat_map (f a) (range_with_len (n + 1) (count - (n + 1)))) (flat-more (f a) n))
        (none-first (λ a. flat_map (f a) (range_with_len 0 n) ++ f a n) (λ a. flat_map (f a) (range_with_len (n + 1) (count - (n + 1))))
        (none-then (λ a. flat_map (f a) (range_with_len 0 n)) (λ a. f a n) before none))
