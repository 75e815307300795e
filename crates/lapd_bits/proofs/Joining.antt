-- Many bits go on an open gap at once.
use Rattle.lapd_bits.proofs.Vocabulary.{◌≡◌, ℕ, ◌+◌, ◌-◌, ◌*◌, ◌/◌, ◌%◌, ◌^◌, ◌<◌, ◌≤◌, Bool, List, [], ◌∷◌, ◌++◌, Option, ap, sym, ◌∙◌, arith, append_assoc, All-nil, All-cons, All-append, mul-add-lt, mod-mul-add, div-mul-add, pow-add, pow_below, mod-eq_of_lt, bits, low_bits, Keeps, Assembles, low_bits-add, low_bits-mod, bits-push}

-- ---- a number above another

-- the sum is below 2 ^ 16, and so is the number that is moved up
pub above_fits : (number place more : ℕ) → place < 8 → number < 2 ^ place → more < 256 → number + more * 2 ^ place < 65536
above_fits number place more small below few = grind (arith, mul-add-lt, pow_below)

pub above_is : (number place more : ℕ) → place < 8 → number < 2 ^ place → more < 256 → number + more * 2 ^ place % 4294967296 ≡ number + more * 2 ^ place
above_is number place more small below few =
    let fits : more * 2 ^ place < 4294967296 = omega (arith, above_fits number place more small below few) in
    ap (λ n. number + n) (mod-eq_of_lt fits)

pub above_bits : (number place more n : ℕ) → number < 2 ^ place → low_bits (place + n) (number + more * 2 ^ place) ≡ low_bits place number ++ low_bits n more
above_bits number place more n below =
    let x = more * 2 ^ place + number in
    let turned : number + more * 2 ^ place ≡ x = omega arith in
    ap (low_bits (place + n)) turned
    ∙ low_bits-add place n x
    ∙ ap (λ l. l ++ low_bits n (x / 2 ^ place)) (sym (low_bits-mod place x) ∙ ap (low_bits place) (mod-mul-add more (2 ^ place) number below))
    ∙ ap (λ y. low_bits place number ++ low_bits n y) (div-mul-add more (2 ^ place) number below)

pub above_below : (number place more n : ℕ) → number < 2 ^ place → more < 2 ^ n → number + more * 2 ^ place < 2 ^ (place + n)
above_below number place more n below few = grind (arith, pow-add, mul-add-lt)

-- the same in 64 bits
pub above_fits_word : (number place more n : ℕ) → number < 2 ^ place → more < 2 ^ n → place + n < 64 → number + more * 2 ^ place < 18446744073709551616
above_fits_word number place more n below few small =
    omega (arith, above_below number place more n below few, pow_below (place + n) 64 small)

pub above_is_word : (number place more n : ℕ) → number < 2 ^ place → more < 2 ^ n → place + n < 64 → number + more * 2 ^ place % 18446744073709551616 ≡ number + more * 2 ^ place
above_is_word number place more n below few small = grind (arith, above_fits_word, mod-eq_of_lt)

-- ---- the octets of the gap

-- the low octet of a number, and what is above
pub split_octet : (n x : ℕ) → 8 ≤ n → low_bits n x ≡ low_bits 8 (x % 256) ++ low_bits (n - 8) (x / 256)
split_octet n x h =
    ap (λ k. low_bits k x) (omega arith)
    ∙ low_bits-add 8 (n - 8) x
    ∙ ap (λ l. l ++ low_bits (n - 8) (x / 256)) (sym (low_bits-mod 8 x))

-- bits that fill an octet, which is kept
pub Assembles-joined_octet : (octets later_octets : List ℕ) (count later_count : ℕ) (beyond later_beyond : Option ℕ) (partial filled joined n content partial' filled' : ℕ) (text : List Bool) → (a : Assembles octets count beyond partial filled text) → 8 ≤ filled + n → low_bits (filled + n) joined ≡ low_bits filled partial ++ low_bits n content → partial' ≡ joined / 256 → filled' ≡ filled + n - 8 → Keeps later_octets later_count later_beyond (a.whole ++ joined % 256 ∷ []) → Assembles later_octets later_count later_beyond partial' filled' (text ++ low_bits n content)
Assembles-joined_octet octets later_octets count later_count beyond later_beyond partial filled joined n content partial' filled' text a long e p q k =
    let octet = joined % 256 in
    record {
      whole = a.whole ++ octet ∷ [];
      are_octets = All-append (λ x. x < 256) a.whole (octet ∷ []) a.are_octets (All-cons (λ x. x < 256) octet [] (omega arith) (All-nil (λ x. x < 256)));
      keeps = k;
      assembled =
          ap (λ t. t ++ low_bits n content) a.assembled
          ∙ append_assoc (bits a.whole) (low_bits filled partial) (low_bits n content)
          ∙ ap (λ t. bits a.whole ++ t) (sym e ∙ split_octet (filled + n) joined long)
          ∙ sym (append_assoc (bits a.whole) (low_bits 8 octet) (low_bits (filled + n - 8) (joined / 256)))
          ∙ ap (λ t. t ++ low_bits (filled + n - 8) (joined / 256)) (sym (bits-push a.whole octet))
          ∙ ap (λ m. bits (a.whole ++ octet ∷ []) ++ low_bits m (joined / 256)) (sym q)
          ∙ ap (λ y. bits (a.whole ++ octet ∷ []) ++ low_bits filled' y) (sym p);
    }

-- what is left is below the power for its bits
pub left_below : (joined n : ℕ) → 8 ≤ n → joined < 2 ^ n → joined / 256 < 2 ^ (n - 8)
left_below joined n h below = grind (arith, pow-add)
