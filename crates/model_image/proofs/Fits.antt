-- What fits into so many octets: a list of octets that has no more. It is so of numbers, of lists, and of what follows one
-- another.
use Rattle.std.proofs.Common.{arith, lit<, ℕ, zero, suc, ◌+◌, ◌*◌, ◌/◌, ◌%◌, ◌<◌, ◌≤◌, Bool, true, false, List, [], ◌∷◌, ◌++◌, length, length-append}
use Rattle.std.specs.Prelude.{All, flat_map, sum_by}
use Rattle.std.proofs.lemmas.List.Elements.{All-append, All-cons, All-head, All-nil, All-tail}
use Rattle.std.proofs.lemmas.List.Sums.{sum_by-cons}
use Rattle.std.proofs.lemmas.Nat.{mod_below}
use Rattle.lapd_frame.specs.declared.controls.Control.{Control}
use Rattle.lapd_frame.specs.declared.controls.Control.TheVariants.{Information, ReceiveReady, ReceiveNotReady, Reject, Sabme, Disc, Ui, Ua, Dm, Frmr, Xid}
use Rattle.lapd_frame.specs.Grammar.{row, one_of, second_octet}
use Rattle.lapd_seq.specs.declared.numbers.Seq.{Seq}
use Rattle.model_bits.specs.StuffingLaws.{AreOctets}
use Rattle.lapd_image.specs.Numbers.{number, list_of, contents}

pub record Fits (n : ℕ) (xs : List ℕ) : Type 0 where
  pub octets : AreOctets xs
  pub few : length xs ≤ n

-- what fits into less
pub fits-less : (n m : ℕ) (xs : List ℕ) → n ≤ m → Fits n xs → Fits m xs
fits-less n m xs most fits = record { octets = fits.octets; few = omega (arith, most, fits.few) }

pub fits-nil : (n : ℕ) → Fits n []
fits-nil n = record { octets = All-nil (λ (o : ℕ). o < 256); few = omega arith }

-- one more octet
pub fits-cons : (x n : ℕ) (xs : List ℕ) → x < 256 → Fits n xs → Fits (1 + n) (x ∷ xs)
fits-cons x n xs small fits = record { octets = All-cons (λ (o : ℕ). o < 256) x xs small fits.octets; few = omega (arith, fits.few) }

-- one list after another
pub fits-append : (n m : ℕ) (xs ys : List ℕ) → Fits n xs → Fits m ys → Fits (n + m) (xs ++ ys)
fits-append n m xs ys fits others =
    record { octets = All-append (λ (o : ℕ). o < 256) xs ys fits.octets others.octets; few = omega (arith, length-append xs ys, fits.few, others.few) }

-- a number
pub fits-number : (count n : ℕ) → Fits count (number count n)
unfolding number
fits-number zero n = fits-nil zero
fits-number (suc count) n =
    fits-less (1 + count) (suc count) (n % 256 ∷ number count (n / 256)) (omega arith)
    (fits-cons (n % 256) count (number count (n / 256)) (mod_below n 256 (lit< tt)) (fits-number count (n / 256)))

-- Members one after the other, each of so many octets and of some more by its weight.
module _ {A : Type 0} (P : A → Type 0) (f : A → List ℕ) (a w : ℕ) (weight : A → ℕ) (each : (x : A) → P x → Fits (a + weight x * w) (f x)) where
  pub fits-each : (xs : List A) → All P xs → Fits (length xs * a + sum_by weight xs * w) (flat_map f xs)
  fits-each [] all = fits-nil _
  fits-each (x ∷ xs) all =
      fits-less ((a + weight x * w) + (length xs * a + sum_by weight xs * w)) (length (x ∷ xs) * a + sum_by weight (x ∷ xs) * w) (f x ++ flat_map f xs)
      (rw (sum_by-cons weight x xs) (omega arith))
      (fits-append (a + weight x * w) (length xs * a + sum_by weight xs * w) (f x) (flat_map f xs) (each x (All-head P x xs all)) (fits-each xs (All-tail P x xs all)))

-- Members of so many octets each; and with their count before them.
module _ {A : Type 0} (P : A → Type 0) (f : A → List ℕ) (a : ℕ) (each : (x : A) → P x → Fits a (f x)) where
  pub fits-all : (xs : List A) → All P xs → Fits (length xs * a) (flat_map f xs)
  fits-all [] all = fits-nil _
  fits-all (x ∷ xs) all =
      fits-less (a + length xs * a) (length (x ∷ xs) * a) (f x ++ flat_map f xs) (omega arith)
      (fits-append a (length xs * a) (f x) (flat_map f xs) (each x (All-head P x xs all)) (fits-all xs (All-tail P x xs all)))

  pub fits-list : (xs : List A) → length xs < 256 → All P xs → Fits (1 + length xs * a) (list_of f xs)
  fits-list xs small all = fits-cons (length xs) (length xs * a) (flat_map f xs) small (fits-all xs all)

-- contents
abbrev pub HasContents : ℕ → List ℕ → Type 0
HasContents most octets = AreOctets octets × (length octets ≤ most)

pub fits-contents : (most : ℕ) (octets : List ℕ) → HasContents most octets → Fits (2 + most) (contents octets)
fits-contents most octets has =
    fits-append 2 most (number 2 (length octets)) octets (fits-number 2 (length octets)) (record { octets = has.0; few = has.1 })

-- a control field
one-fits : (without with_pf : ℕ) (pf : Bool) → without < 256 → with_pf < 256 → Fits 2 (one_of without with_pf pf)
one-fits without with_pf true small also = fits-less 1 2 _ (omega arith) (fits-cons with_pf 0 [] also (fits-nil 0))
one-fits without with_pf false small also = fits-less 1 2 _ (omega arith) (fits-cons without 0 [] small (fits-nil 0))

second-small : (nr : Seq) (pf : Bool) → second_octet nr pf < 256
second-small nr true = omega (arith, nr.in_range)
second-small nr false = omega (arith, nr.in_range)

two-fit : (first : ℕ) (nr : Seq) (pf : Bool) → first < 256 → Fits 2 (first ∷ second_octet nr pf ∷ [])
two-fit first nr pf small = fits-cons first 1 _ small (fits-cons (second_octet nr pf) 0 [] (second-small nr pf) (fits-nil 0))

pub field-fits : (c : Control) → Fits 2 (row c).field
field-fits (Information ns nr pf) = two-fit (2 * ns.value) nr pf (omega (arith, ns.in_range))
field-fits (ReceiveReady nr pf) = two-fit 1 nr pf (lit< tt)
field-fits (ReceiveNotReady nr pf) = two-fit 5 nr pf (lit< tt)
field-fits (Reject nr pf) = two-fit 9 nr pf (lit< tt)
field-fits (Sabme pf) = one-fits 0x6F 0x7F pf (lit< tt) (lit< tt)
field-fits (Disc pf) = one-fits 0x43 0x53 pf (lit< tt) (lit< tt)
field-fits (Ui pf) = one-fits 0x03 0x13 pf (lit< tt) (lit< tt)
field-fits (Ua pf) = one-fits 0x63 0x73 pf (lit< tt) (lit< tt)
field-fits (Dm pf) = one-fits 0x0F 0x1F pf (lit< tt) (lit< tt)
field-fits (Frmr pf) = one-fits 0x87 0x97 pf (lit< tt) (lit< tt)
field-fits (Xid pf) = one-fits 0xAF 0xBF pf (lit< tt) (lit< tt)
