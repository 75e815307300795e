-- Where five 1s come together in a number's bits: they go as they are up to there, and then goes a 0.
use Rattle.lapd_bits.proofs.Vocabulary.{◌≡◌, ℕ, suc, zero, ◌+◌, ◌/◌, ◌%◌, ◌^◌, ◌<◌, ◌≤◌, min, Bool, true, false, if◌then◌else◌, nat_eq, bit_and, List, [], ◌∷◌, ◌++◌, refl, ap, sym, ◌∙◌, arith, append_assoc, eqb-true, lt-ltb, and_shr, and_le_r, shr-shr, bit_at-suc, bit_at_lowest, div-one, bit_at, low_bits, first_ones, last_ones, fives, stuffed_after, ones_sent}
use lib.Bits.{and_step}
use Rattle.lapd_bits.proofs.StuffingAtOnce.{last_ones_few}

-- ---- where five 1s begin

-- a number moved down twice
swap : (k j x : ℕ) → x / 2 ^ k / 2 ^ j ≡ x / 2 ^ j / 2 ^ k
swap k j x = shr-shr x k j ∙ ap (λ n. x / 2 ^ n) {x = k + j} {y = j + k} (omega arith) ∙ sym (shr-shr x j k)

-- some places up
pub fives-shr : (k x : ℕ) → fives (x / 2 ^ k) ≡ fives x / 2 ^ k
fives-shr k x =
    let y = x / 2 ^ k in
    ap (λ a. bit_and (bit_and (bit_and y a) (bit_and (y / 4) (y / 8))) (y / 16)) (swap k 1 x)
    ∙ ap (λ b. bit_and (bit_and (bit_and y (x / 2 / 2 ^ k)) (bit_and b (y / 8))) (y / 16)) (swap k 2 x)
    ∙ ap (λ c. bit_and (bit_and (bit_and y (x / 2 / 2 ^ k)) (bit_and (x / 4 / 2 ^ k) c)) (y / 16)) (swap k 3 x)
    ∙ ap (λ d. bit_and (bit_and (bit_and y (x / 2 / 2 ^ k)) (bit_and (x / 4 / 2 ^ k) (x / 8 / 2 ^ k))) d) (swap k 4 x)
    ∙ ap (λ t. bit_and (bit_and t (bit_and (x / 4 / 2 ^ k) (x / 8 / 2 ^ k))) (x / 16 / 2 ^ k)) (sym (and_shr x (x / 2) k))
    ∙ ap (λ t. bit_and (bit_and (bit_and x (x / 2) / 2 ^ k) t) (x / 16 / 2 ^ k)) (sym (and_shr (x / 4) (x / 8) k))
    ∙ ap (λ t. bit_and t (x / 16 / 2 ^ k)) (sym (and_shr (bit_and x (x / 2)) (bit_and (x / 4) (x / 8)) k))
    ∙ sym (and_shr (bit_and (bit_and x (x / 2)) (bit_and (x / 4) (x / 8))) (x / 16) k)

pub fives-half : (x : ℕ) → fives (x / 2) ≡ fives x / 2
fives-half x = fives-shr 1 x

pub fives-below : (x : ℕ) → fives x ≤ x / 16
fives-below x = and_le_r (bit_and (bit_and x (x / 2)) (bit_and (x / 4) (x / 8))) (x / 16)

-- the lowest place has all of five bits
pub fives-low : (x : ℕ) → fives x % 2 ≡ min (min (min (x % 2) (x / 2 % 2)) (min (x / 4 % 2) (x / 8 % 2))) (x / 16 % 2)
fives-low x =
    omega (arith, and_step x (x / 2), and_step (x / 4) (x / 8), and_step (bit_and x (x / 2)) (bit_and (x / 4) (x / 8)), and_step (bit_and (bit_and x (x / 2)) (bit_and (x / 4) (x / 8))) (x / 16))

-- by twos
pub fives-twos : (x : ℕ) → bit_and (bit_and (bit_and x (x / 2)) (bit_and x (x / 2) / 4)) (x / 16) ≡ fives x
fives-twos x =
    let eight : x / 2 / 4 ≡ x / 8 = omega arith in
    ap (λ t. bit_and (bit_and (bit_and x (x / 2)) t) (x / 16)) (and_shr x (x / 2) 2 ∙ ap (bit_and (x / 4)) eight)

-- ---- the latest four bits and the next

-- the next is a 1 after three at most
one_more : (d c b a : Bool) → first_ones (d ∷ c ∷ b ∷ a ∷ []) ≤ 3 → first_ones (true ∷ d ∷ c ∷ b ∷ []) ≡ suc (first_ones (d ∷ c ∷ b ∷ a ∷ []))
one_more d c b a h = grind arith

-- three at most where they are not all 1s
not_all : (d c b a : Bool) → (a ≡ true → b ≡ true → c ≡ true → d ≡ true → ⊥) → first_ones (d ∷ c ∷ b ∷ a ∷ []) ≤ 3
not_all d c b a h = grind arith

-- where no five begin, fewer than four are before a 1
three_before : (x : ℕ) → fives x % 2 ≡ 0 → x / 16 % 2 ≡ 1 → last_ones x ≤ 3
unfolding low_bits
three_before x none fifth = grind (arith, not_all, nat_eq, fives-low, eqb-true)

is_one : (y : ℕ) → y ≡ 1 → nat_eq y 1 ≡ true
is_one y is = ap (λ z. nat_eq z 1) is

-- where five do, four are
four_before : (x : ℕ) → fives x % 2 ≡ 1 → last_ones x ≡ 4
unfolding low_bits
four_before x five = grind (arith, nat_eq, is_one, fives-low)

-- one bit on
last_ones-next : (x : ℕ) (b : Bool) → nat_eq (x / 16 % 2) 1 ≡ b → fives x % 2 ≡ 0 → last_ones (x / 2) ≡ (if b then suc (last_ones x) else 0)
unfolding low_bits
last_ones-next x false is none =
    let same : x / 2 / 2 / 2 / 2 % 2 ≡ x / 16 % 2 = omega arith in
    ap (λ b. first_ones (b ∷ nat_eq (x / 2 / 2 / 2 % 2) 1 ∷ nat_eq (x / 2 / 2 % 2) 1 ∷ nat_eq (x / 2 % 2) 1 ∷ [])) (ap (λ y. nat_eq y 1) same ∙ is)
last_ones-next x true is none =
    let same : x / 2 / 2 / 2 / 2 % 2 ≡ x / 16 % 2 = omega arith in
    ap (λ b. first_ones (b ∷ nat_eq (x / 2 / 2 / 2 % 2) 1 ∷ nat_eq (x / 2 / 2 % 2) 1 ∷ nat_eq (x / 2 % 2) 1 ∷ [])) (ap (λ y. nat_eq y 1) same ∙ is)
    ∙ one_more _ _ _ (nat_eq (x % 2) 1) (three_before x none (eqb-true (x / 16 % 2) 1 is))

-- What goes of bits after so many 1s, and the 1s that then stand at the end.
abbrev pub going : ℕ → List Bool → List Bool × ℕ
going n b = (stuffed_after n b, ones_sent n b)

-- the same after bits that have gone
abbrev pub behind : List Bool → List Bool × ℕ → List Bool × ℕ
behind front p = (front ++ p.0, p.1)

-- one front behind another
pub behind_both : (a b : List Bool) (p : List Bool × ℕ) → behind a (behind b p) ≡ behind (a ++ b) p
behind_both a b p i = (sym (append_assoc a b p.0) i, p.1)

-- a bit goes after four 1s at most
bit_goes : (n : ℕ) (b : Bool) (rest : List Bool) → n ≤ 4 → going n (b ∷ rest) ≡ behind (b ∷ []) (going (if b then suc n else 0) rest)
bit_goes n b rest few = grind (arith, lt-ltb)

-- and so does one of a number where no five begin
number_goes : (x m : ℕ) → fives x % 2 ≡ 0 → going (last_ones x) (low_bits (suc m) (x / 16)) ≡ behind (nat_eq (x / 16 % 2) 1 ∷ []) (going (last_ones (x / 2)) (low_bits m (x / 2 / 16)))
unfolding low_bits
number_goes x m none = grind (arith, nat_eq, bit_goes, last_ones_few, last_ones-next)

-- ---- where none begin

pub calm_goes : (m x : ℕ) → fives x ≡ 0 → going (last_ones x) (low_bits m (x / 16)) ≡ (low_bits m (x / 16), last_ones (x / 2 ^ m))
unfolding low_bits
calm_goes zero x none =
    simp (lt-ltb (last_ones x) 5 (omega (arith, last_ones_few x))) (ap (λ y. ([], last_ones y)) (sym (div-one x)))
calm_goes (suc m) x none =
    let bit = nat_eq (x / 16 % 2) 1 in
    let half : x / 2 / 16 ≡ x / 16 / 2 = omega arith in
    let one : 1 + m ≡ suc m = omega arith in
    number_goes x m (omega (arith, none))
    ∙ ap (behind (bit ∷ [])) (calm_goes m (x / 2) (omega (arith, fives-half x, none)))
    ∙ (λ i. (bit ∷ low_bits m (half i), last_ones ((shr-shr x 1 m ∙ ap (λ n. x / 2 ^ n) one) i)))

-- ---- where the first begin

-- at once, a 0 goes after the fifth
fifth_goes : (b : List Bool) → going 4 (true ∷ b) ≡ behind (true ∷ false ∷ []) (going 0 b)
fifth_goes [] = refl
fifth_goes (false ∷ b) = refl
fifth_goes (true ∷ b) = refl

five_goes : (m x : ℕ) → fives x % 2 ≡ 1 → going (last_ones x) (low_bits (suc m) (x / 16)) ≡ behind (true ∷ false ∷ []) (going 0 (low_bits m (x / 32)))
unfolding low_bits
five_goes m x five = grind (arith, nat_eq, is_one, fives-low, four_before, fifth_goes)

-- Five 1s begin at this place of a number, and at no place below.
abbrev pub IsFirst : ℕ → ℕ → Type 0
IsFirst s x = (bit_at (fives x) s ≡ 1) × ((i : ℕ) → i < s → bit_at (fives x) i ≡ 0)

-- one place up
IsFirst-half : (s x : ℕ) → IsFirst (suc s) x → IsFirst s (x / 2)
IsFirst-half s x first = (
  ap (λ f. bit_at f s) (fives-half x) ∙ sym (bit_at-suc (fives x) s) ∙ first.0,
  λ i below. ap (λ f. bit_at f i) (fives-half x) ∙ sym (bit_at-suc (fives x) i) ∙ first.1 (suc i) (omega (arith, below)),
)

IsFirst-none : (s x : ℕ) → IsFirst (suc s) x → fives x % 2 ≡ 0
IsFirst-none s x first = sym (bit_at_lowest (fives x)) ∙ first.1 0 (omega arith)

pub first_goes : (s m n x : ℕ) → n ≡ suc s + m → IsFirst s x → going (last_ones x) (low_bits n (x / 16)) ≡ behind (low_bits (suc s) (x / 16) ++ false ∷ []) (going 0 (low_bits m (x / 2 ^ (s + 5))))
unfolding low_bits
first_goes zero m n x parts first =
    let five : fives x % 2 ≡ 1 = sym (bit_at_lowest (fives x)) ∙ first.0 in
    let fifth : nat_eq (x / 16 % 2) 1 ≡ true = is_one (x / 16 % 2) (omega (arith, fives-low x, five)) in
    let more : n ≡ suc m = omega (arith, parts) in
    ap (λ k. going (last_ones x) (low_bits k (x / 16))) more
    ∙ five_goes m x five
    ∙ ap (λ b. behind (b ∷ false ∷ []) (going 0 (low_bits m (x / 32)))) (sym fifth)
first_goes (suc s) m n x parts first =
    let half : x / 2 / 16 ≡ x / 16 / 2 = omega arith in
    let more : n ≡ suc (suc s + m) = omega (arith, parts) in
    let places : 1 + (s + 5) ≡ suc s + 5 = omega arith in
    ap (λ k. going (last_ones x) (low_bits k (x / 16))) more
    ∙ number_goes x (suc s + m) (IsFirst-none s x first)
    ∙ ap (behind (nat_eq (x / 16 % 2) 1 ∷ []))
    (first_goes s m (suc s + m) (x / 2) refl (IsFirst-half s x first)
    ∙ (λ i. behind (low_bits (suc s) (half i) ++ false ∷ []) (going 0 (low_bits m ((shr-shr x 1 (s + 5) ∙ ap (λ k. x / 2 ^ k) places) i)))))
