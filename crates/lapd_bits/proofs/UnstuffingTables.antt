-- The tables hold what stays of each octet after each number of 1s.
use Rattle.lapd_bits.proofs.Vocabulary.{◌≡◌, ℕ, ◌+◌, ◌*◌, ◌/◌, ◌%◌, ◌^◌, ◌<◌, ◌≤◌, Bool, true, false, ◌&&◌, ◌||◌, [], ◌∷◌, ◌++◌, get_or, map, replicate, nat_eq, nat_le, nat_lt, refl, ap, sym, ◌∙◌, arith, range_with_len, and_parts, leb-true, ltb-true, eqb-true, low_bits, same_bits, same_from_test, unstuffed, run_of, with_bits, ends_nothing, IsContent, TABLES}
use Rattle.lapd_bits.proofs.Tested.{all_pass}

-- What the tables have for some 1s and an octet: the octet ends something, or these are what stays of it.
abbrev is_entry : ℕ → ℕ → ℕ → ℕ → ℕ → Bool
is_entry ones octet content count run =
    nat_eq count 0
    || (ends_nothing ones (low_bits 8 octet)
    && (same_bits (unstuffed (replicate ones true ++ low_bits 8 octet)) (replicate ones true ++ low_bits count content)
    && (nat_eq run (run_of (with_bits 8 octet (replicate ones true ++ false ∷ [])))
    && (nat_lt content (2 ^ count) && (nat_le count 8 && nat_le run 7)))))

abbrev is_entry_at : ℕ → Bool
is_entry_at place =
    is_entry (place % 8) (place / 8) (get_or TABLES.bits place 0) (get_or TABLES.counts place 0) (get_or TABLES.runs (place / 8) 0)

entries_are : map is_entry_at (range_with_len 0 2048) ≡ replicate 2048 true
unfolding low_bits
entries_are = refl

-- the entries for some 1s and an octet, where they are not marked
by_test : (ones octet content count run : ℕ) → (nat_eq count 0 ≡ false) → is_entry ones octet content count run ≡ true
    → IsContent ones octet content count run × (content < 2 ^ count) × (count ≤ 8) × (run ≤ 7)
by_test ones octet content count run some e = search (arith, and_parts, same_from_test, eqb-true, leb-true, ltb-true)

pub entry : (ones octet : ℕ) → ones ≤ 7 → octet < 256 → (nat_eq (get_or TABLES.counts (octet * 8 + ones) 0) 0 ≡ false)
    → IsContent ones octet (get_or TABLES.bits (octet * 8 + ones) 0) (get_or TABLES.counts (octet * 8 + ones) 0) (get_or TABLES.runs octet 0)
    × (get_or TABLES.bits (octet * 8 + ones) 0 < 2 ^ get_or TABLES.counts (octet * 8 + ones) 0)
    × (get_or TABLES.counts (octet * 8 + ones) 0 ≤ 8) × (get_or TABLES.runs octet 0 ≤ 7)
entry ones octet few small some =
    let at = octet * 8 + ones in
    let row : at / 8 ≡ octet = omega arith in
    let column : at % 8 ≡ ones = omega arith in
    by_test ones octet (get_or TABLES.bits at 0) (get_or TABLES.counts at 0) (get_or TABLES.runs octet 0) some
    (sym (ap (λ o. is_entry (at % 8) o (get_or TABLES.bits at 0) (get_or TABLES.counts at 0) (get_or TABLES.runs o 0)) row
    ∙ ap (λ n. is_entry n octet (get_or TABLES.bits at 0) (get_or TABLES.counts at 0) (get_or TABLES.runs octet 0)) column)
    ∙ all_pass is_entry_at 2048 at entries_are (omega arith))
