-- Each octet in which a flag ends is tested by computing, after each number of 1s before it.
use Rattle.lapd_bits.proofs.Vocabulary.{◌≡◌, ℕ, ◌+◌, ◌-◌, ◌*◌, ◌/◌, ◌%◌, ◌^◌, ◌<◌, ◌≤◌, Bool, true, false, not, ◌&&◌, ◌||◌, [], ◌∷◌, ◌++◌, Option, Some, map, range_with_len, replicate, nat_eq, nat_le, refl, ap, sym, subst, ◌∙◌, arith, and_parts, eq-eqb, eqb-true, leb-true, pow_below, pow_pos, shr_lt, one-mul, mod-eq_of_lt, low_bits, same_bits, same_from_test, unstuffed, run_of, with_bits}
use Rattle.lapd_bits.proofs.Vocabulary.{ends_nothing, fives, IsFlagEnd}
use Rattle.std.specs.Int.{leading_ones, w8}
use Rattle.std.specs.Prelude.{SomeIff}
use lib.Count.{count_leading_zeros}
use Rattle.lapd_bits.proofs.Tested.{all_pass}

pub power_is : (place : ℕ) → place < 8 → 1 * 2 ^ place % 256 ≡ 2 ^ place
power_is place h = grind (arith, pow_below, pow_pos, shr_lt, one-mul, mod-eq_of_lt)

abbrev is_flag_end : ℕ → ℕ → ℕ → ℕ → ℕ → ℕ → Bool
is_flag_end ones octet before front behind run =
    same_bits (low_bits 8 octet) (low_bits before front ++ (false ∷ low_bits (7 - before) behind))
    && (nat_le ones 6
    && (ends_nothing ones (low_bits before front)
    && (same_bits (unstuffed (replicate ones true ++ low_bits before front)) (replicate ones true ++ low_bits before front)
    && (nat_eq (run_of (with_bits before front (replicate ones true ++ (false ∷ [])))) 6
    && (ends_nothing 0 (low_bits (7 - before) behind)
    && (same_bits (unstuffed (low_bits (7 - before) behind)) (low_bits (7 - before) behind)
    && nat_eq run (run_of (with_bits (7 - before) behind (false ∷ [])))))))))

by_test : (ones octet before front behind run : ℕ) → is_flag_end ones octet before front behind run ≡ true
    → IsFlagEnd ones octet before front behind run
by_test ones octet before front behind run e = search (arith, and_parts, same_from_test, eqb-true, leb-true)

-- a whole flag
pub flag-whole : (ones : ℕ) → ones < 5 → IsFlagEnd ones 126 7 126 0 0
unfolding low_bits
flag-whole ones few = by_test ones 126 7 126 0 0 (all_pass (λ n. is_flag_end n 126 7 126 0 0) 5 ones refl few)

-- the end of one, after so many 1s less than six, where no five 1s stand behind it
abbrev is_tested : ℕ → ℕ → Bool
is_tested before octet =
    not (nat_eq (octet % 2 ^ (before + 1)) (2 ^ before - 1) && nat_eq (fives (octet / 2 ^ (before + 1) * 16)) 0)
    || (is_flag_end (6 - before) octet before (2 ^ before - 1) (octet / 2 ^ (before + 1)) (leading_ones w8 octet)
    && nat_le (leading_ones w8 octet) 7)

tested : map (λ place. is_tested (place / 256) (place % 256)) (range_with_len 0 1792) ≡ replicate 1792 true
unfolding low_bits count_leading_zeros
tested = refl

passed : (a b d : Bool) → a ≡ true → b ≡ true → (not (a && b) || d) ≡ true → d ≡ true
passed a b d p q h = grind arith

-- as the code has it
pub record IsFound (ones octet before run : ℕ) : Type 0 where
  pub flag : IsFlagEnd ones octet before (1 * 2 ^ before % 256 - 1) (octet / 2 ^ (before + 1)) run
  pub at_most : before ≤ 7
  pub below : 1 * 2 ^ before % 256 - 1 < 2 ^ before
  pub below_behind : octet / 2 ^ (before + 1) < 2 ^ (7 - before)
  pub few : run ≤ 7

pub flag-ended : (ones before octet run : ℕ) (found : Option ℕ) → SomeIff found (ones ≤ 6) (6 - ones) → found ≡ Some before → octet < 256
    → octet % (1 * 2 ^ (before + 1) % 256) ≡ 1 * 2 ^ before % 256 - 1 → fives (0 + octet / 2 ^ (before + 1) * 16) ≡ 0
    → run ≡ leading_ones w8 octet → IsFound ones octet before run
flag-ended ones before octet run found is was small begins none run_is =
    let both = subst (λ o. SomeIff o (ones ≤ 6) (6 - ones)) was is in
    let at = before * 256 + octet in
    let row : at / 256 ≡ before = omega (arith, both.1) in
    let column : at % 256 ≡ octet = omega arith in
    let left : 6 - before ≡ ones = omega (arith, both.0, both.1) in
    let power = power_is before (omega (arith, both.1)) in
    let front : octet % 2 ^ (before + 1) ≡ 2 ^ before - 1 =
    ap (λ p. octet % p) (sym (power_is (before + 1) (omega (arith, both.1)))) ∙ begins ∙ ap (λ p. p - 1) power in
    let same : octet / 2 ^ (before + 1) * 16 ≡ 0 + octet / 2 ^ (before + 1) * 16 = omega arith in
    let test : is_tested before octet ≡ true =
    subst (λ o. is_tested before o ≡ true) column
    (subst (λ b. is_tested b (at % 256) ≡ true) row
    (all_pass (λ place. is_tested (place / 256) (place % 256)) 1792 at tested (omega (arith, both.1)))) in
    let passes = and_parts (is_flag_end (6 - before) octet before (2 ^ before - 1) (octet / 2 ^ (before + 1)) (leading_ones w8 octet)) _
    (passed _ _ _ (eq-eqb _ _ front) (eq-eqb _ _ (ap fives same ∙ none)) test) in
    record {
      flag =
          by_test ones octet before (1 * 2 ^ before % 256 - 1) (octet / 2 ^ (before + 1)) run
          (subst (λ r. is_flag_end ones octet before (1 * 2 ^ before % 256 - 1) (octet / 2 ^ (before + 1)) r ≡ true) (sym run_is)
          (subst (λ p. is_flag_end ones octet before (p - 1) (octet / 2 ^ (before + 1)) (leading_ones w8 octet) ≡ true) (sym power)
          (subst (λ n. is_flag_end n octet before (2 ^ before - 1) (octet / 2 ^ (before + 1)) (leading_ones w8 octet) ≡ true) left passes.0)));
      at_most = omega (arith, both.1);
      below = subst (λ p. p - 1 < 2 ^ before) (sym power) (omega (arith, pow_pos before));
      below_behind = shr_lt (7 - before) (before + 1) (subst (λ k. octet < 2 ^ k) {x = 8} (omega (arith, both.1)) small);
      few = subst (λ n. n ≤ 7) (sym run_is) (leb-true _ _ passes.1);
    }
