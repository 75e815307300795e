-- Bits are stuffed one 0 after the other: what lies below a place is done, and the places above where five 1s begin are known.
use Rattle.lapd_bits.proofs.Vocabulary.{◌≡◌, ℕ, suc, zero, ◌+◌, ◌-◌, ◌*◌, ◌/◌, ◌%◌, ◌^◌, ◌<◌, ◌≤◌, min, Bool, false, nat_eq, List, [], ◌∷◌, ◌++◌, length, reverse, ap, sym, ◌∙◌, arith, append_assoc, length-append, subst, ⊎_elim, shr-shr, div-mul-add, pow-add, pow_pos, pow_below, bit_at-suc, bit_at_lowest, bit_at-trailing_zeros, div-one, div-add-mod, mod-lt, mod-eq_of_lt, add-mul-mod_self_right}
use Rattle.lapd_bits.proofs.Vocabulary.{div-le_self, div-mul-le_self, mul-le-mul_left, shr_lt, cases_lt, bit_at, w64, low_bits, first_ones, last_ones, Goes, fives, low_bits-add, low_bits-mod, length-low_bits, stuffed_after, stuffed_after-pays, stuffed_after-at_least}
use lib.Count.{count_trailing_zeros}
use native.Mathlib.Nat.{pow-suc}
use Rattle.lapd_bits.proofs.StuffingAtOnce.{Goes-sent, last_ones_few}
use Rattle.lapd_bits.proofs.Fives.{fives-shr, fives-half, fives-low, fives-below, going, behind, behind_both, calm_goes, IsFirst, first_goes}

-- of `total` bits above the latest four, `done` are as they go; `left` bits are still to be stuffed, and `due` marks where
-- five 1s begin in them
pub record Underway (ones : ℕ) (b : List Bool) (text total due : ℕ) : Type 0 where
  pub done : ℕ
  pub left : ℕ
  pub all : total ≡ done + left
  pub below : text < 2 ^ (total + 4)
  pub due_is : due ≡ fives (text / 2 ^ done) * 2 ^ done
  pub goes : going ones b ≡ behind (low_bits done (text / 16)) (going (last_ones (text / 2 ^ done)) (low_bits left (text / 2 ^ done / 16)))

-- ---- the latest four bits by the low ones of a number

last_ones-low : (latest more : ℕ) → latest < 16 → last_ones (latest + more * 16) ≡ last_ones latest
last_ones-low latest more four =
    let low : (latest + more * 16) % 2 ^ 4 ≡ latest = omega arith in
    ap (λ l. first_ones (reverse l)) (sym (low_bits-mod 4 (latest + more * 16)) ∙ ap (low_bits 4) low)

last_ones-three : (z : ℕ) → last_ones (7 + 16 * z) ≡ 0
unfolding low_bits
last_ones-three z = grind (arith, nat_eq)

-- ---- nothing is done

pub begin : (latest bits count : ℕ) → latest < 16 → bits < 2 ^ count → Underway (last_ones latest) (low_bits count bits) (latest + bits * 16) count (fives (latest + bits * 16))
unfolding low_bits
begin latest bits count four below =
    let x = latest + bits * 16 in
    let one : x / 2 ^ 0 ≡ x = div-one x in
    let last : last_ones latest ≡ last_ones (x / 2 ^ 0) = sym (ap last_ones one ∙ last_ones-low latest bits four) in
    let more : bits ≡ x / 2 ^ 0 / 16 = omega (arith, one) in
    record {
      done = 0;
      left = count;
      all = omega arith;
      below = omega (arith, below, pow-add 2 count 4);
      due_is = omega (arith, ap fives one);
      goes = ap (λ n. going n (low_bits count bits)) last ∙ ap (λ y. going (last_ones (x / 2 ^ 0)) (low_bits count y)) more;
    }

-- ---- how long it is

module _ (ones : ℕ) (b : List Bool) (text total due : ℕ) (u : Underway ones b text total due) where
  pub total_few : ones ≤ 4 → length b ≤ 40 → total ≤ 48
  total_few few short =
      let rest = low_bits u.left (text / 2 ^ u.done / 16) in
      omega (
        arith,
        u.all,
        stuffed_after-pays ones b (omega (arith, few)),
        ap (λ p. length p.0) u.goes,
        length-append (low_bits u.done (text / 16)) (stuffed_after (last_ones (text / 2 ^ u.done)) rest),
        length-low_bits u.done (text / 16),
        length-low_bits u.left (text / 2 ^ u.done / 16),
        stuffed_after-at_least (last_ones (text / 2 ^ u.done)) rest,
      )

  -- ---- nothing is due

  pub none_due : due ≡ 0 → (low_bits total (text / 16), last_ones (text / 2 ^ total)) ≡ going ones b
  none_due none =
      let y = text / 2 ^ u.done in
      let calm : fives y ≡ 0 = no_product (fives y) (2 ^ u.done) (pow_pos u.done) (sym u.due_is ∙ none) in
      let moved : text / 16 / 2 ^ u.done ≡ y / 16 =
      shr-shr text 4 u.done ∙ ap (λ n. text / 2 ^ n) (omega arith) ∙ sym (shr-shr text u.done 4) in
      let whole : low_bits (u.done + u.left) (text / 16) ≡ low_bits u.done (text / 16) ++ low_bits u.left (y / 16) =
      low_bits-add u.done u.left (text / 16) ∙ ap (λ z. low_bits u.done (text / 16) ++ low_bits u.left z) moved in
      ap (λ n. (low_bits n (text / 16), last_ones (text / 2 ^ n))) u.all
      ∙ (λ i. (whole i, last_ones (sym (shr-shr text u.done u.left) i)))
      ∙ ap (behind (low_bits u.done (text / 16))) (sym (calm_goes u.left y calm))
      ∙ sym u.goes
    where
      no_product : (f p : ℕ) → 0 < p → f * p ≡ 0 → f ≡ 0
      no_product f p some none = grind arith

-- ---- a 0 goes in

-- the place where five 1s begin in a number that is moved up
record IsMoved (place moved f : ℕ) : Type 0 where
  own : ℕ
  is : place ≡ moved + own
  one : bit_at f own ≡ 1
  none : (i : ℕ) → i < own → bit_at f i ≡ 0

moved_up : (d place f : ℕ) → bit_at (f * 2 ^ d) place ≡ 1 → ((i : ℕ) → i < place → bit_at (f * 2 ^ d) i ≡ 0) → IsMoved place d f
moved_up zero place f one none =
    let same : f * 2 ^ 0 ≡ f = omega arith in
    record {
      own = place;
      is = omega arith;
      one = ap (λ g. bit_at g place) (sym same) ∙ one;
      none = λ i below. ap (λ g. bit_at g i) (sym same) ∙ none i below;
    }
moved_up (suc d) zero f one none =
    absurd (omega (arith, one, bit_at_lowest (f * 2 ^ suc d), ap (λ p. f * p) (pow-suc 2 d)))
moved_up (suc d) (suc place) f one none =
    let half : f * 2 ^ suc d / 2 ≡ f * 2 ^ d = omega (arith, ap (λ p. f * p) (pow-suc 2 d)) in
    let down : (i : ℕ) → bit_at (f * 2 ^ d) i ≡ bit_at (f * 2 ^ suc d) (suc i) = λ i. ap (λ g. bit_at g i) (sym half) ∙ sym (bit_at-suc (f * 2 ^ suc d) i) in
    let m = moved_up d place f (down place ∙ one) (λ i below. down i ∙ none (suc i) (omega (arith, below))) in
    record { own = m.own; is = omega (arith, m.is); one = m.one; none = m.none }

-- five 1s stand there
five_there : (s x : ℕ) → bit_at (fives x) s ≡ 1 → x / 2 ^ s ≡ 31 + 32 * (x / 2 ^ (s + 5))
five_there s x one =
    let y = x / 2 ^ s in
    let low : fives y % 2 ≡ 1 = ap (λ f. f % 2) (fives-shr s x) ∙ one in
    omega (arith, low, fives-low y, shr-shr x s 5)

-- with a 0 more after the fifth, in powers
record IsPutIn (text p z : ℕ) : Type 0 where
  three : (text + z * (32 * p)) / (4 * p) ≡ 7 + 16 * z
  after : (text + z * (32 * p)) / (32 * p) ≡ 2 * z

put_in : (text p z : ℕ) → 0 < p → text / p ≡ 31 + 32 * z → IsPutIn text p z
put_in text p z some is =
    let r = text % p in
    let small : r < p = mod-lt text some in
    let whole : text ≡ (31 + 32 * z) * p + r = omega (arith, div-add-mod text p, ap (λ q. p * q) is) in
    let lower : text + z * (32 * p) ≡ (7 + 16 * z) * (4 * p) + (3 * p + r) = omega (arith, whole) in
    let higher : text + z * (32 * p) ≡ 2 * z * (32 * p) + (31 * p + r) = omega (arith, whole) in
    record {
      three = ap (λ t. t / (4 * p)) lower ∙ div-mul-add (7 + 16 * z) (4 * p) (3 * p + r) (omega (arith, small));
      after = ap (λ t. t / (32 * p)) higher ∙ div-mul-add (2 * z) (32 * p) (31 * p + r) (omega (arith, small));
    }

-- where five begin after it: not with its 0 among them
none_with_zero : (x : ℕ) → min (min (x % 2) (x / 2 % 2)) (min (x / 4 % 2) (x / 8 % 2)) ≡ 0 → fives x % 2 ≡ 0
none_with_zero x zero_is = omega (arith, fives-low x, zero_is)

fives-three : (z : ℕ) → fives (7 + 16 * z) ≡ 16 * fives z
fives-three z =
    let x = 7 + 16 * z in
    let two = 3 + 8 * z in
    let one = 1 + 4 * z in
    let none = 2 * z in
    let first : fives x ≡ 2 * fives two =
    let half : x / 2 ≡ two = omega arith in omega (arith, fives-half x, ap fives half, none_with_zero x (omega arith)) in
    let second : fives two ≡ 2 * fives one =
    let half : two / 2 ≡ one = omega arith in omega (arith, fives-half two, ap fives half, none_with_zero two (omega arith)) in
    let third : fives one ≡ 2 * fives none =
    let half : one / 2 ≡ none = omega arith in omega (arith, fives-half one, ap fives half, none_with_zero one (omega arith)) in
    let fourth : fives none ≡ 2 * fives z =
    let half : none / 2 ≡ z = omega arith in omega (arith, fives-half none, ap fives half, none_with_zero none (omega arith)) in
    omega (arith, first, second, third, fourth)

-- the bits below it and the 0
put_bits : (text k z : ℕ) → (text + z * (32 * 2 ^ k)) / (32 * 2 ^ k) ≡ 2 * z → low_bits (k + 2) ((text + z * (32 * 2 ^ k)) / 16) ≡ low_bits (k + 1) (text / 16) ++ false ∷ []
unfolding low_bits
put_bits text k z after =
    let w = 2 ^ (k + 1) in
    let double : w ≡ 2 * 2 ^ k = omega (arith, pow-add 2 k 1) in
    let new = (text + z * (32 * 2 ^ k)) / 16 in
    let low : new ≡ text / 16 + z * w = omega (arith, double, ap (λ p. z * p) double) in
    let same : new % w ≡ text / 16 % w = ap (λ t. t % w) low ∙ add-mul-mod_self_right (text / 16) z w in
    let high : new / w ≡ 2 * z =
    shr-shr (text + z * (32 * 2 ^ k)) 4 (k + 1)
    ∙ ap (λ p. (text + z * (32 * 2 ^ k)) / p) (omega (arith, pow-add 2 4 (k + 1), double))
    ∙ after in
    let places : k + 2 ≡ k + 1 + 1 = omega arith in
    let even : nat_eq (2 * z % 2) 1 ≡ false = ap (λ d. nat_eq d 1) {y = 0} (omega arith) in
    ap (λ n. low_bits n new) places
    ∙ low_bits-add (k + 1) 1 new
    ∙ ap (λ l. l ++ low_bits 1 (new / w)) (sym (low_bits-mod (k + 1) new) ∙ ap (low_bits (k + 1)) same ∙ low_bits-mod (k + 1) (text / 16))
    ∙ ap (λ y. low_bits (k + 1) (text / 16) ++ low_bits 1 y) high
    ∙ ap (λ b. low_bits (k + 1) (text / 16) ++ b ∷ []) even

-- ---- one 0 on

module _ (ones : ℕ) (b : List Bool) (text total due : ℕ) (u : Underway ones b text total due) where
  up : (k : ℕ) → text / 2 ^ u.done / 2 ^ k ≡ text / 2 ^ (u.done + k)
  up k = shr-shr text u.done k

  above : text / 2 ^ u.done / 16 ≡ text / 16 / 2 ^ u.done
  above = up 4 ∙ ap (λ n. text / 2 ^ n) (omega arith) ∙ sym (shr-shr text 4 u.done)

  due_below : due < 2 ^ total
  due_below = grind (arith, mul-le-mul_left, fives-below, above, div-mul-le_self, pow-add)

  module _ (some : due ≡ 0 → ⊥) (fits : due < 2 ^ 64) where
    abbrev place : ℕ
    place = count_trailing_zeros 64 due

    its_place : IsMoved place u.done (fives (text / 2 ^ u.done))
    its_place =
        let found = bit_at-trailing_zeros w64 due (omega (arith, some)) fits in
        moved_up u.done place (fives (text / 2 ^ u.done)) (ap (λ d. bit_at d place) (sym u.due_is) ∙ found.1)
        (λ i below. ap (λ d. bit_at d i) (sym u.due_is) ∙ found.2 i below)

    five : text / 2 ^ place ≡ 31 + 32 * (text / 2 ^ (place + 5))
    five =
        let m = its_place in
        ap (λ k. text / 2 ^ k) m.is
        ∙ sym (up m.own)
        ∙ five_there m.own (text / 2 ^ u.done) m.one
        ∙ ap (λ t. 31 + 32 * t) (up (m.own + 5) ∙ ap (λ k. text / 2 ^ k) (omega (arith, m.is)))

    pub within : place < total
    within =
        ⊎_elim
        (λ below. below)
        (λ beyond.
        let parts : place ≡ total + (place - total) = omega (arith, beyond) in
        let few : text / 2 ^ total < 2 ^ 4 = shr_lt 4 total (subst (λ k. text < 2 ^ k) {x = total + 4} (omega arith) u.below) in
        absurd (omega (arith, few, five, ap (λ k. text / 2 ^ k) parts, shr-shr text total (place - total), div-le_self (text / 2 ^ total) (2 ^ (place - total)))))
        (cases_lt place total)

    pub next : Underway ones b (text + text / 2 ^ (place + 5) * 2 ^ (place + 5)) (total + 1) (due / 2 ^ (place + 5) * 2 ^ (place + 5) * 2)
    next =
        let m = its_place in
        let y = text / 2 ^ u.done in
        let z = text / 2 ^ (place + 5) in
        let p = 2 ^ place in
        let new = text + z * (32 * p) in
        let rest = u.left - (m.own + 1) in
        let power : 2 ^ (place + 5) ≡ 32 * p = omega (arith, pow-add 2 place 5) in
        let three_power : 2 ^ (place + 2) ≡ 4 * p = omega (arith, pow-add 2 place 2) in
        let is_new : new ≡ text + z * 2 ^ (place + 5) = ap (λ w. text + z * w) (sym power) in
        let put = put_in text p z (pow_pos place) five in
        let three : new / 2 ^ (place + 2) ≡ 7 + 16 * z = ap (λ w. new / w) three_power ∙ put.three in
        let high : y / 2 ^ (m.own + 5) ≡ z = up (m.own + 5) ∙ ap (λ k. text / 2 ^ k) (omega (arith, m.is)) in
        let parts : u.left ≡ suc m.own + rest = omega (arith, within, u.all, m.is) in
        let first : IsFirst m.own y = (m.one, m.none) in
        let beyond : z ≡ new / 2 ^ (place + 2) / 16 = omega (arith, three) in
        let fresh : 0 ≡ last_ones (new / 2 ^ (place + 2)) = sym (ap last_ones three ∙ last_ones-three z) in
        let tail : going 0 (low_bits rest (y / 2 ^ (m.own + 5))) ≡ going (last_ones (new / 2 ^ (place + 2))) (low_bits rest (new / 2 ^ (place + 2) / 16)) =
        λ i. going (fresh i) (low_bits rest ((high ∙ beyond) i)) in
        let front : low_bits u.done (text / 16) ++ low_bits (suc m.own) (y / 16) ≡ low_bits (place + 1) (text / 16) =
        ap (λ t. low_bits u.done (text / 16) ++ low_bits (suc m.own) t) above
        ∙ sym (low_bits-add u.done (suc m.own) (text / 16))
        ∙ ap (λ k. low_bits k (text / 16)) (omega (arith, m.is)) in
        let lasting : due / 2 ^ (place + 5) ≡ fives z =
        ap (λ d. d / 2 ^ (place + 5)) u.due_is
        ∙ ap (λ k. fives y * 2 ^ u.done / 2 ^ k) (omega (arith, m.is))
        ∙ sym (shr-shr (fives y * 2 ^ u.done) u.done (m.own + 5))
        ∙ ap (λ f. f / 2 ^ (m.own + 5)) (mul_div (fives y) (2 ^ u.done) (pow_pos u.done))
        ∙ sym (fives-shr (m.own + 5) y)
        ∙ ap fives high in
        subst (λ t. Underway ones b t (total + 1) (due / 2 ^ (place + 5) * 2 ^ (place + 5) * 2)) is_new
        record {
          done = place + 2;
          left = rest;
          all = omega (arith, u.all, parts, m.is);
          below = omega (arith, is_new, u.below, div-mul-le_self text (2 ^ (place + 5)), pow-add 2 (total + 4) 1, ap (λ k. 2 ^ k) (more total));
          due_is =
              ap (λ f. f * 2 ^ (place + 5) * 2) lasting
              ∙ ap (λ w. fives z * w * 2) power
              ∙ regroup (fives z) p
              ∙ ap (λ f. f * (4 * p)) (sym (fives-three z))
              ∙ ap (λ w. fives (7 + 16 * z) * w) (sym three_power)
              ∙ ap (λ t. fives t * 2 ^ (place + 2)) (sym three);
          goes =
              u.goes
              ∙ ap (behind (low_bits u.done (text / 16))) (first_goes m.own rest u.left y parts first)
              ∙ behind_both (low_bits u.done (text / 16)) (low_bits (suc m.own) (y / 16) ++ false ∷ []) _
              ∙ (λ i. behind
              ((sym (append_assoc (low_bits u.done (text / 16)) (low_bits (suc m.own) (y / 16)) (false ∷ []))
              ∙ ap (λ l. l ++ false ∷ []) front
              ∙ sym (put_bits text place z put.after)) i)
              (tail i));
        }
      where
        regroup : (f w : ℕ) → f * (32 * w) * 2 ≡ 16 * f * (4 * w)
        regroup f w = omega arith

        more : (n : ℕ) → n + 1 + 4 ≡ n + 4 + 1
        more n = omega arith

        mul_div : (f w : ℕ) → 0 < w → f * w / w ≡ f
        mul_div f w positive = ap (λ t. t / w) {y = f * w + 0} (omega arith) ∙ div-mul-add f w 0 positive

    -- ---- in a word of 64 bits

    module _ (few : ones ≤ 4) (short : length b ≤ 40) where
      pub place_fits : place + 5 < 64
      place_fits = omega (arith, within, total_few ones b text total due u few short)

      pub text_fits : text < 2 ^ 53
      text_fits = omega (arith, u.below, pow_below (total + 4) 53 (omega (arith, total_few ones b text total due u few short)))

      text_moved : text / 2 ^ (place + 5) * 2 ^ (place + 5) % 18446744073709551616 ≡ text / 2 ^ (place + 5) * 2 ^ (place + 5)
      text_moved = mod-eq_of_lt (omega (arith, text_fits, div-mul-le_self text (2 ^ (place + 5))))

      due_moved : due / 2 ^ (place + 5) * 2 ^ (place + 5) % 18446744073709551616 * 2 % 18446744073709551616 ≡ due / 2 ^ (place + 5) * 2 ^ (place + 5) * 2
      due_moved =
          let small : due < 2 ^ 49 = omega (arith, due_below, pow_below total 49 (omega (arith, total_few ones b text total due u few short))) in
          let kept : due / 2 ^ (place + 5) * 2 ^ (place + 5) % 18446744073709551616 ≡ due / 2 ^ (place + 5) * 2 ^ (place + 5) =
          mod-eq_of_lt (omega (arith, small, div-mul-le_self due (2 ^ (place + 5)))) in
          ap (λ d. d * 2 % 18446744073709551616) kept ∙ mod-eq_of_lt (omega (arith, small, div-mul-le_self due (2 ^ (place + 5))))

      pub next_word : Underway ones b (text + text / 2 ^ (place + 5) * 2 ^ (place + 5) % 18446744073709551616) (total + 1) (due / 2 ^ (place + 5) * 2 ^ (place + 5) % 18446744073709551616 * 2 % 18446744073709551616)
      next_word = grind (arith, text_moved, due_moved, next)

-- ---- nothing was due at all

pub calm : (latest more n : ℕ) → latest < 16 → fives (latest + more * 16) ≡ 0 → Goes [] (last_ones latest) (low_bits n more) (low_bits n more) (last_ones ((latest + more * 16) / 2 ^ n))
calm latest more n four none =
    let x = latest + more * 16 in
    let back : x / 16 ≡ more = omega arith in
    let last = last_ones-low latest more four in
    let goes : going (last_ones latest) (low_bits n more) ≡ (low_bits n more, last_ones (x / 2 ^ n)) =
    (λ i. going (sym last i) (low_bits n (sym back i))) ∙ calm_goes n x none ∙ ap (λ y. (low_bits n y, last_ones (x / 2 ^ n))) back in
    Goes-sent [] (low_bits n more) (low_bits n more) (last_ones latest) (last_ones (x / 2 ^ n)) (last_ones_few latest) (last_ones_few (x / 2 ^ n))
    (ap (λ p. p.0) goes) (sym (ap (λ p. p.1) goes))
