-- Bits are stuffed all at once, the 0 after a fifth 1 with it.
use Rattle.lapd_bits.proofs.Vocabulary.{◌≡◌, ℕ, suc, ◌≤◌, Bool, true, false, List, [], ◌∷◌, ◌++◌, drop, replicate, refl, ap, sym, ◌∙◌, arith, append_assoc, lt-ltb, le-ltb, cases_lt, drop_at, length-replicate, low_bits, stuffed, first_ones, last_ones, text_after, Goes, ones_sent, stuffed_after, stuffed_zero, ones_left, stuffed_alike, stuffed_after_fifth}

-- the end of a stuffed text, by the count of 1s
stuffed_end : (n : ℕ) (b : List Bool) → n ≤ 4 → drop n (stuffed (replicate n true ++ b)) ≡ stuffed_after n b
stuffed_end n b h = grind (arith, stuffed_alike, drop_at, stuffed_after, length-replicate)

-- after the 0 that is due
stuffed_after-due : (ones : ℕ) (b : List Bool) → stuffed_after ones b ≡ stuffed_zero ones ++ stuffed_after (ones_left ones) b
stuffed_after-due ones b = grind (arith, lt-ltb, stuffed_after_fifth, le-ltb, cases_lt)

-- a text in two parts
stuffed_after-append : (ones : ℕ) (s t : List Bool) → stuffed_after ones (s ++ t) ≡ stuffed_after ones s ++ stuffed_after (ones_sent ones s) t
stuffed_after-append ones [] t = stuffed_after-due ones t
stuffed_after-append ones (false ∷ s) t =
    ap (λ l. stuffed_zero ones ++ false ∷ l) (stuffed_after-append 0 s t)
    ∙ sym (append_assoc (stuffed_zero ones) (false ∷ stuffed_after 0 s) (stuffed_after (ones_sent 0 s) t))
stuffed_after-append ones (true ∷ s) t =
    let more = suc (ones_left ones) in
    ap (λ l. stuffed_zero ones ++ true ∷ l) (stuffed_after-append more s t)
    ∙ sym (append_assoc (stuffed_zero ones) (true ∷ stuffed_after more s) (stuffed_after (ones_sent more s) t))

-- none is left where no bits are
pub text_after-none : (ones : ℕ) → ones ≤ 4 → text_after ones [] ≡ []
text_after-none ones few = stuffed_end ones [] (omega arith) ∙ simp (lt-ltb ones 5 (omega arith)) refl

-- a text goes on with the stuffed bits, by the count of 1s
pub Goes-sent : (before sent b : List Bool) (ones run : ℕ) → ones ≤ 4 → run ≤ 4 → stuffed_after ones b ≡ sent → run ≡ ones_sent ones b → Goes before ones b (before ++ sent) run
Goes-sent before sent b ones run few after_few is run_is rest = grind (arith, stuffed_end, stuffed_after-append, stuffed_after, append_assoc)

-- ---- the latest four bits

-- of four bits at most four are 1s
four_few : (d c b a : Bool) → first_ones (d ∷ c ∷ b ∷ a ∷ []) ≤ 4
four_few d c b a = grind arith

pub last_ones_few : (x : ℕ) → last_ones x ≤ 4
unfolding low_bits
last_ones_few x = four_few _ _ _ _

pub last_ones_none : last_ones 0 ≡ 0
unfolding low_bits
last_ones_none = refl
