-- Sequence numbers, their distances, and the plain numbers that they stand for.
use Rattle.lapd_seq.proofs.Vocabulary.{◌≡◌, ℕ, ◌+◌, ◌%◌, ◌<◌, ◌≤◌, refl, ap, inl, inr, Bool, true, false, IsTrue, MatchOption, ◌↔◌, arith, Seq, seq, distance_of, AreNumbers, IsValid, IsNamed, named, leb_tells}
use Rattle.lapd_seq.proofs.Callers.{is_seq, seq-value, distance-plain, seq-distance}

-- the number after
pub seq-next : (x y : Seq) (n : ℕ) → x ≡ seq n → y.value ≡ (x.value + 1) % 128 → y ≡ seq (n + 1)
seq-next x y n e h = is_seq y (n + 1) (omega (arith, seq-value x n e, h))

-- an N(R) names the number of the next I-frame exactly where it has the value of V(S)
pub named-next : (x nr y : Seq) (a s n : ℕ) → AreNumbers x y a s → IsNamed a s nr n → (nr.value ≡ y.value) ↔ (n ≡ s)
named-next x nr y a s n h k =
    let named : nr.value ≡ n % 128 = seq-value nr n k.remainder in
    let vs : y.value ≡ s % 128 = seq-value y s h.sent in
    let high : s ≤ a + 127 = h.within in
    let from : a ≤ n = k.from in
    let to : n ≤ s = k.to in
    (λ e. omega (arith, e), λ e. omega (arith, e))

-- what is not true is false
not_true : (b : Bool) → (IsTrue b → ⊥) → b ≡ false
not_true true no_proof = absurd (no_proof refl)
not_true false no_proof = refl

-- `named` finds the number that a valid N(R) names, and finds none for another
pub named-finds : (x nr y : Seq) (a s : ℕ) (b : Bool) → AreNumbers x y a s → IsTrue b ↔ IsValid x nr y
    → MatchOption (named a s nr) (b ≡ false) (λ n. IsTrue b × IsNamed a s nr n)
unfolding named
named-finds x nr y a s b h test =
    let same : distance_of x nr ≡ distance_of (seq a) nr = ap (λ z. distance_of z nr) h.acknowledged in
    let whole : a + distance_of x y ≡ s = distance-plain x y a s h in
    elim (leb_tells (a + distance_of (seq a) nr) s) [
      | inl t ↦ rw t.0 (test.1 (omega (arith, t.1)), record { from = omega arith; to = t.1; remainder = seq-distance (seq a) nr a refl })
      | inr f ↦ rw f.0 (not_true b (λ t. let v : IsValid x nr y = test.0 t in omega (arith, f.1)))
    ]

-- one more is sent
pub numbers-advance : (x y y' : Seq) (a s : ℕ) → distance_of x y < 127 → y' ≡ seq (s + 1) → AreNumbers x y a s → AreNumbers x y' a (s + 1)
numbers-advance x y y' a s free next h =
    record { ordered = omega (arith, h.ordered); within = omega (arith, distance-plain x y a s h, free); acknowledged = h.acknowledged; sent = next }

-- a number is no step away from itself
pub distance-self : (x : Seq) → distance_of x x ≡ 0
unfolding distance_of
distance-self x = omega (arith, x.in_range)

-- V(A) is a valid N(R)
pub first-valid : (x y : Seq) → IsValid x x y
first-valid x y = omega (arith, distance-self x)

-- two numbers stand for the first's value and what lies as far above it
pub numbers-of : (x y : Seq) → distance_of x y < 128 → AreNumbers x y x.value (x.value + distance_of x y)
numbers-of x y bound =
    let same : x ≡ seq x.value = is_seq x x.value (omega (arith, x.in_range)) in
    record { ordered = omega arith; within = omega (arith, bound); acknowledged = same; sent = seq-distance x y x.value same }

-- the next number is one step further away
pub distance-next : (x y y' : Seq) → distance_of x y < 127 → y' ≡ seq (y.value + 1) → distance_of x y' ≡ distance_of x y + 1
unfolding distance_of
distance-next x y y' free next = omega (arith, seq-value y' (y.value + 1) next, x.in_range, y.in_range, free)

-- a valid N(R) parts the way from V(A) to V(S)
pub distance-parts : (x nr y : Seq) → IsValid x nr y → distance_of x nr + distance_of nr y ≡ distance_of x y
unfolding distance_of
distance-parts x nr y valid = omega (arith, x.in_range, nr.in_range, y.in_range, valid)
