-- The reference numbers come again after 65,536 of them, and not before: the period of such a sequence is doubled with
-- each power of two, and nothing is computed.
use Rattle.std.proofs.Common.{◌≡◌, ℕ, zero, suc, ◌+◌, ◌-◌, ◌*◌, ◌/◌, ◌%◌, ◌^◌, ◌<◌, refl, sym, ap, ◌∙◌, arith}
use Rattle.std.proofs.Math.Nat.{mul_assoc, pow-suc, mod-eq_of_lt, mod-lt, add-mul-mod_self_left}
use Rattle.model_teis.specs.terminal.Numbers.{next_number, NoneComesAgain, AllComeAgain}
unfoldable use Rattle.model_teis.specs.terminal.Numbers.{number_after}

-- a number doubled so many times
dbl : ℕ → ℕ → ℕ
dbl zero x = x
dbl (suc m) x = dbl m (x + x)

dbl-add : (m x y : ℕ) → dbl m (x + y) ≡ dbl m x + dbl m y
unfolding dbl
dbl-add zero x y = refl
dbl-add (suc m) x y =
    let apart : (x + y) + (x + y) ≡ (x + x) + (y + y) = omega arith in
    ap (dbl m) apart ∙ dbl-add m (x + x) (y + y)

dbl-zero : (m : ℕ) → dbl m 0 ≡ 0
unfolding dbl
dbl-zero zero = refl
dbl-zero (suc m) = dbl-zero m

dbl-same : (m a b : ℕ) → dbl m a ≡ dbl m b → a ≡ b
unfolding dbl
dbl-same zero a b e = e
dbl-same (suc m) a b e = omega (arith, dbl-same m (a + a) (b + b) e)

dbl-power : (m x : ℕ) → dbl m x ≡ 2 ^ m * x
unfolding dbl
dbl-power zero x = omega arith
dbl-power (suc m) x =
    let twice : x + x ≡ 2 * x = omega arith in
    dbl-power m (x + x) ∙ ap (λ n. 2 ^ m * n) twice ∙ sym (mul_assoc (2 ^ m) 2 x) ∙ ap (λ n. n * x) (sym (pow-suc 2 m))

dbl-through : (p : ℕ → ℕ) → ((a b : ℕ) → p (a + b) ≡ p a + p b) → (m w : ℕ) → p (dbl m w) ≡ dbl m (p w)
unfolding dbl
dbl-through p adds zero w = refl
dbl-through p adds (suc m) w = dbl-through p adds m (w + w) ∙ ap (dbl m) (adds w w)

-- A map of this kind takes each number an odd multiple of 2 to the m further, and a number that is d more to one that
-- is d more and a multiple of four.
record Steps (m : ℕ) (f p : ℕ → ℕ) : Type 0 where
  more : (x d : ℕ) → f (x + d) ≡ (f x + d) + 4 * p d
  adds : (a b : ℕ) → p (a + b) ≡ p a + p b
  goes : (x : ℕ) → (u : ℕ) × (f x ≡ x + dbl m ((u + u) + 1))

-- Taken twice, it is one of the next power.
twice_more : (f p : ℕ → ℕ) → ((x d : ℕ) → f (x + d) ≡ (f x + d) + 4 * p d) → (x d : ℕ) → f (f (x + d)) ≡ (f (f x) + d) + 4 * (p d + p (d + 4 * p d))
twice_more f p more x d =
    let apart : (f x + d) + 4 * p d ≡ f x + (d + 4 * p d) = omega arith in
    let first : f (f (x + d)) ≡ f (f x + (d + 4 * p d)) = ap f (more x d ∙ apart) in
    let second = more (f x) (d + 4 * p d) in
    omega (arith, first, second)

twice_adds : (p : ℕ → ℕ) → ((a b : ℕ) → p (a + b) ≡ p a + p b) → (a b : ℕ) → p (a + b) + p ((a + b) + 4 * p (a + b)) ≡ (p a + p (a + 4 * p a)) + (p b + p (b + 4 * p b))
twice_adds p adds a b =
    let one = adds a b in
    let apart : (a + b) + 4 * p (a + b) ≡ (a + 4 * p a) + (b + 4 * p b) = omega (arith, one) in
    let two : p ((a + b) + 4 * p (a + b)) ≡ p (a + 4 * p a) + p (b + 4 * p b) = ap p apart ∙ adds (a + 4 * p a) (b + 4 * p b) in
    omega (arith, one, two)

-- an odd number of steps of 2 to the m, and four times as much as p makes of them
odd_again : (m u y : ℕ) → dbl (suc m) (((u + y) + (u + y)) + 1) ≡ (dbl m ((u + u) + 1) + dbl m ((u + u) + 1)) + 4 * dbl m y
unfolding dbl
odd_again m u y =
    let w = (u + u) + 1 in
    let apart : (((u + y) + (u + y)) + 1) + (((u + y) + (u + y)) + 1) ≡ ((w + y) + y) + ((w + y) + y) = omega arith in
    let whole : dbl m ((((u + y) + (u + y)) + 1) + (((u + y) + (u + y)) + 1)) ≡ dbl m (((w + y) + y) + ((w + y) + y)) = ap (dbl m) apart in
    omega (arith, whole, dbl-add m ((w + y) + y) ((w + y) + y), dbl-add m (w + y) y, dbl-add m w y)

twice_goes : (m : ℕ) (f p : ℕ → ℕ) → Steps m f p → (x : ℕ) → (u : ℕ) × (f (f x) ≡ x + dbl (suc m) ((u + u) + 1))
twice_goes m f p s x =
    let (u, e) = s.goes x in
    let w = (u + u) + 1 in
    let first : f (f x) ≡ f (x + dbl m w) = ap f e in
    let second = s.more x (dbl m w) in
    let through = dbl-through p s.adds m w in
    (u + p w, omega (arith, e, first, second, through, odd_again m u (p w)))

twice : (m : ℕ) (f p : ℕ → ℕ) → Steps m f p → Steps (suc m) (λ x. f (f x)) (λ d. p d + p (d + 4 * p d))
twice m f p s = record { more = twice_more f p s.more; adds = twice_adds p s.adds; goes = twice_goes m f p s }

-- a map taken so many times
iterate : (ℕ → ℕ) → ℕ → ℕ → ℕ
iterate f zero y = y
iterate f (suc d) y = f (iterate f d y)

by_two : (f : ℕ → ℕ) (h d y : ℕ) → d ≡ h + h → iterate f d y ≡ iterate (λ x. f (f x)) h y
unfolding iterate
by_two f zero d y e =
    let none : d ≡ zero = omega arith in
    ap (λ n. iterate f n y) none
by_two f (suc h) d y e =
    let two : d ≡ suc (suc (h + h)) = omega arith in
    ap (λ n. iterate f n y) two ∙ ap (λ x. f (f x)) (by_two f h (h + h) y refl)

goes_on : (m : ℕ) (f p : ℕ → ℕ) → Steps m f p → (d y : ℕ) → (s : ℕ) × (iterate f d y ≡ y + dbl m s)
unfolding iterate
goes_on m f p s zero y = (0, omega (arith, dbl-zero m))
goes_on m f p s (suc d) y =
    let (k, e) = goes_on m f p s d y in
    let (u, step) = s.goes (iterate f d y) in
    (k + ((u + u) + 1), omega (arith, e, step, dbl-add m k ((u + u) + 1)))

-- An odd number of times leads an odd multiple further.
odd_apart : (m : ℕ) (f p : ℕ → ℕ) → Steps m f p → (h y t : ℕ) → f (iterate (λ x. f (f x)) h y) ≡ y + dbl m (t + t) → ⊥
unfolding dbl
odd_apart m f p s h y t e =
    let (k, on) = goes_on (suc m) (λ x. f (f x)) (λ d. p d + p (d + 4 * p d)) (twice m f p s) h y in
    let (u, step) = s.goes (iterate (λ x. f (f x)) h y) in
    let even : dbl (suc m) k ≡ dbl m (k + k) = refl in
    let same : dbl m ((k + k) + ((u + u) + 1)) ≡ dbl m (t + t) = omega (arith, e, on, step, even, dbl-add m (k + k) ((u + u) + 1)) in
    let sums = dbl-same m ((k + k) + ((u + u) + 1)) (t + t) same in
    omega (arith, sums)

-- So many times that it leads by a multiple of 2 to the (m + n) is a multiple of 2 to the n.
abbrev ComesBack : ℕ → Type 0
ComesBack n = (m : ℕ) (f p : ℕ → ℕ) → Steps m f p → (d y k : ℕ) → iterate f d y ≡ y + dbl m (dbl n k) → (q : ℕ) × (d ≡ dbl n q)

back_even : (n : ℕ) → ComesBack n → (m : ℕ) (f p : ℕ → ℕ) → Steps m f p → (h d y k : ℕ) → d ≡ h + h → iterate f d y ≡ y + dbl m (dbl (suc n) k) → (q : ℕ) × (d ≡ dbl (suc n) q)
unfolding dbl
back_even n shorter m f p s h d y k half e =
    let same : iterate (λ x. f (f x)) h y ≡ y + dbl (suc m) (dbl n k) =
    sym (by_two f h d y half) ∙ e ∙ ap (λ t. y + dbl m t) (dbl-add n k k) in
    let (q, is) = shorter (suc m) (λ x. f (f x)) (λ d. p d + p (d + 4 * p d)) (twice m f p s) h y k same in
    (q, omega (arith, half, is, dbl-add n q q))

back_odd : (n m : ℕ) (f p : ℕ → ℕ) → Steps m f p → (h d y k : ℕ) → d ≡ suc (h + h) → iterate f d y ≡ y + dbl m (dbl (suc n) k) → ⊥
unfolding dbl iterate
back_odd n m f p s h d y k half e =
    let last : iterate f d y ≡ f (iterate (λ x. f (f x)) h y) = ap (λ n. iterate f n y) half ∙ ap f (by_two f h (h + h) y refl) in
    odd_apart m f p s h y (dbl n k) (sym last ∙ e ∙ ap (λ t. y + dbl m t) (dbl-add n k k))

back_halved : (n : ℕ) → ComesBack n → (m : ℕ) (f p : ℕ → ℕ) → Steps m f p → (h r d y k : ℕ) → d ≡ (h + h) + r → r < 2 → iterate f d y ≡ y + dbl m (dbl (suc n) k) → (q : ℕ) × (d ≡ dbl (suc n) q)
back_halved n shorter m f p s h zero d y k half low e = back_even n shorter m f p s h d y k (omega arith) e
back_halved n shorter m f p s h (suc zero) d y k half low e = absurd (back_odd n m f p s h d y k (omega arith) e)
back_halved n shorter m f p s h (suc (suc r)) d y k half low e = absurd (omega arith)

comes_back : (n : ℕ) → ComesBack n
unfolding dbl
comes_back zero m f p s d y k e = (d, refl)
comes_back (suc n) m f p s d y k e = back_halved n (comes_back n) m f p s (d / 2) (d % 2) d y k (omega arith) (omega arith) e

-- And 2 to the n times lead by a multiple of 2 to the (m + n).
abbrev GoesRound : ℕ → Type 0
GoesRound n = (m : ℕ) (f p : ℕ → ℕ) → Steps m f p → (d y : ℕ) → d ≡ dbl n 1 → (v : ℕ) × (iterate f d y ≡ y + dbl m (dbl n v))

goes_round : (n : ℕ) → GoesRound n
unfolding dbl iterate
goes_round zero m f p s d y e =
    let (u, step) = s.goes y in
    ((u + u) + 1, ap (λ n. iterate f n y) e ∙ step)
goes_round (suc n) m f p s d y e =
    let half : d ≡ dbl n 1 + dbl n 1 = omega (arith, dbl-add n 1 1) in
    let (v, is) = goes_round n (suc m) (λ x. f (f x)) (λ d. p d + p (d + 4 * p d)) (twice m f p s) (dbl n 1) y refl in
    (v, by_two f (dbl n 1) d y half ∙ is ∙ ap (λ t. y + dbl m t) (sym (dbl-add n v v)))

-- The numbers before their remainder is taken.
full : ℕ → ℕ
full x = 25173 * x + 13849

full_steps : Steps zero full (λ d. 6293 * d)
unfolding full dbl
full_steps = record { more = λ x d. omega arith; adds = λ a b. omega arith; goes = λ x. (12586 * x + 6924, omega arith) }

rest_step : (x q r : ℕ) → x ≡ 65536 * q + r → (25173 * x + 13849) % 65536 ≡ next_number r
rest_step x q r e =
    let apart : 25173 * x + 13849 ≡ (25173 * r + 13849) + 65536 * (25173 * q) = omega arith in
    ap (λ n. n % 65536) apart ∙ add-mul-mod_self_left (25173 * r + 13849) 65536 (25173 * q)

rests : (d y : ℕ) → y < 65536 → iterate next_number d y ≡ iterate full d y % 65536
unfolding iterate full
rests zero y low = sym (mod-eq_of_lt low)
rests (suc d) y low =
    let x = iterate full d y in
    ap next_number (rests d y low) ∙ sym (rest_step x (x / 65536) (x % 65536) (omega arith))

below : (i seed : ℕ) → seed < 65536 → number_after i seed < 65536
unfolding number_after
below zero seed low = low
below (suc i) seed low = mod-lt (25173 * number_after i seed + 13849) (omega arith)

later : (d i j seed : ℕ) → j ≡ d + i → number_after j seed ≡ iterate next_number d (number_after i seed)
unfolding number_after iterate
later zero i j seed e =
    let same : j ≡ i = omega arith in
    ap (λ n. number_after n seed) same
later (suc d) i j seed e =
    let more : j ≡ suc (d + i) = omega arith in
    ap (λ n. number_after n seed) more ∙ ap next_number (later d i (d + i) seed refl)

pub none_comes_again : NoneComesAgain
unfolding dbl
none_comes_again seed i j low after within same =
    let d = j - i in
    let y = number_after i seed in
    let x = iterate full d y in
    let back : x % 65536 ≡ y = sym (rests d y (below i seed low)) ∙ sym (later d i j seed (omega arith)) ∙ sym same in
    let power : dbl 16 (x / 65536) ≡ 65536 * (x / 65536) = dbl-power 16 (x / 65536) in
    let (q, is) = comes_back 16 zero full (λ d. 6293 * d) full_steps d y (x / 65536) (omega (arith, back, power)) in
    let times : dbl 16 q ≡ 65536 * q = dbl-power 16 q in
    omega (arith, is, times)

pub all_come_again : AllComeAgain
unfolding dbl
all_come_again seed i low =
    let y = number_after i seed in
    let (v, is) = goes_round 16 zero full (λ d. 6293 * d) full_steps 65536 y (sym (dbl-power 16 1)) in
    let power : dbl 16 v ≡ 65536 * v = dbl-power 16 v in
    let whole : iterate full 65536 y ≡ y + 65536 * v = is ∙ ap (λ n. y + n) power in
    later 65536 i (i + 65536) seed (omega arith) ∙ rests 65536 y (below i seed low) ∙ ap (λ n. n % 65536) whole
    ∙ add-mul-mod_self_left y 65536 v ∙ mod-eq_of_lt (below i seed low)
