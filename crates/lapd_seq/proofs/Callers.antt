-- What crates above may cite of sequence numbers.
use Rattle.lapd_seq.proofs.Vocabulary.{◌≡◌, ℕ, ◌+◌, ◌%◌, ◌<◌, ap, subst, arith, Seq, seq, distance_of, AreNumbers, IsValid, IsNamed}
use denote.Struct.Props.{props}

-- two sequence numbers of one value are one
same_seq : (x y : Seq) → x.value ≡ y.value → x ≡ y
same_seq x y e =
    let P : ℕ → Type 0 = λ n. (h : n < 128) → x ≡ record { value = n; in_range = h } in
    let below : IsProp (x.value < 128) = hlevel props in
    subst P e (λ h i. record { value = x.value; in_range = below x.in_range h i }) y.in_range

-- the value of a plain number's remainder
pub seq-value : (x : Seq) (n : ℕ) → x ≡ seq n → x.value ≡ n % 128
unfolding seq
seq-value x n e = ap (λ y. y.value) e

-- what has the value of a plain number's remainder is it
pub is_seq : (x : Seq) (n : ℕ) → x.value ≡ n % 128 → x ≡ seq n
unfolding seq
is_seq x n e = same_seq x (seq n) e

-- the distance of two plain numbers that are at most 127 apart
pub distance-plain : (x y : Seq) (a s : ℕ) → AreNumbers x y a s → a + distance_of x y ≡ s
unfolding distance_of
distance-plain x y a s h = omega (arith, seq-value x a h.acknowledged, seq-value y s h.sent, h.ordered, h.within)

-- the number that lies as far above a as an N(R) above V(A) has its remainder
pub seq-distance : (x nr : Seq) (a : ℕ) → x ≡ seq a → nr ≡ seq (a + distance_of x nr)
unfolding distance_of
seq-distance x nr a e =
    is_seq nr (a + distance_of x nr) (omega (arith, seq-value x a e, x.in_range, nr.in_range))

-- an N(R) that names a number of a..=s is valid
pub valid_from-named : (x nr y : Seq) (a s n : ℕ) → AreNumbers x y a s → IsNamed a s nr n → IsValid x nr y
unfolding distance_of
valid_from-named x nr y a s n h k =
    omega (arith, seq-value x a h.acknowledged, seq-value y s h.sent, seq-value nr n k.remainder, h.within, k.from, k.to)

-- a valid N(R) names the number that lies as far above a as the N(R) above V(A)
pub named-valid : (x nr y : Seq) (a s : ℕ) → AreNumbers x y a s → IsValid x nr y → IsNamed a s nr (a + distance_of x nr)
named-valid x nr y a s h v =
    let whole : a + distance_of x y ≡ s = distance-plain x y a s h in
    record {
      from = omega arith;
      to = omega arith;
      remainder = seq-distance x nr a h.acknowledged;
    }

-- from V(A) to the number that an N(R) names
pub distance-named : (x nr y : Seq) (a s n : ℕ) → AreNumbers x y a s → IsNamed a s nr n → a + distance_of x nr ≡ n
distance-named x nr y a s n h k =
    distance-plain x nr a n (record { ordered = k.from; within = omega (arith, h.within, k.to); acknowledged = h.acknowledged; sent = k.remainder })
