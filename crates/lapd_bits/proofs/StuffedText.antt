-- A stuffed text as it is made: bits are put after it, and its octets go into the buffer.
use Rattle.lapd_bits.proofs.Vocabulary.{◌≡◌, ℕ, zero, suc, ◌+◌, ◌*◌, ◌^◌, ◌<◌, Bool, List, [], ◌∷◌, ◌++◌, ◌≤◌, length, take, drop, drop-cons, get_or, get_or-drop, refl, ap, sym, subst, ◌∙◌, arith, append_assoc, append-nil, length-take, take-add, get_or-take, take-set_at, drop_all, drop-drop, take-append-drop, first_chunks, slice_set, from_le_bytes, w32, low_bits, bits, last_ones, text_after, Goes}
use Rattle.lapd_bits.proofs.Vocabulary.{waits, made, StuffedText, bits-append, bits-push}
use Rattle.std.proofs.Common.{length-drop}
use Rattle.lapd_bits.proofs.Joining.{above_bits}
use Rattle.lapd_bits.proofs.StuffingAtOnce.{text_after-none, last_ones_few}

-- ---- it goes on

-- by some bits and then others
pub Goes-then : (a b c : List Bool) (l m n : ℕ) (first second : List Bool) → Goes a l first b m → Goes b m second c n → Goes a l (first ++ second) c n
Goes-then a b c l m n first second one two rest = grind (arith, append_assoc)

-- after other bits
Goes-behind : (front a b : List Bool) (l m : ℕ) (more : List Bool) → Goes a l more b m → Goes (front ++ a) l more (front ++ b) m
Goes-behind front a b l m more goes rest = grind (arith, append_assoc)

-- as its bits that wait do
pub Goes-made : (text later : StuffedText) (buffer : List ℕ) (more : List Bool) → later.end ≡ text.end → Goes (waits text.waiting) (last_ones text.latest) more (waits later.waiting) (last_ones later.latest) → Goes (made text buffer) (last_ones text.latest) more (made later buffer) (last_ones later.latest)
Goes-made text later buffer more same goes = grind (arith, Goes-behind)

-- and where nothing comes after it
pub Goes-ended : (before after b : List Bool) (ones latest : ℕ) → Goes before ones b after (last_ones latest) → after ≡ before ++ text_after ones b
Goes-ended before after b ones latest goes =
    sym (append-nil after)
    ∙ ap (λ l. after ++ l) (sym (text_after-none (last_ones latest) (last_ones_few latest)))
    ∙ goes []
    ∙ ap (λ l. before ++ text_after ones l) (append-nil b)

-- ---- four octets of a list

-- one by one
are_four : (octets : List ℕ) → length octets ≡ 4 → octets ≡ get_or octets 0 0 ∷ get_or octets 1 0 ∷ get_or octets 2 0 ∷ get_or octets 3 0 ∷ []
are_four octets four =
    drop-cons octets 0 0 (omega arith)
    ∙ ap (λ l. get_or octets 0 0 ∷ l) (drop-cons octets 1 0 (omega arith))
    ∙ ap (λ l. get_or octets 0 0 ∷ get_or octets 1 0 ∷ l) (drop-cons octets 2 0 (omega arith))
    ∙ ap (λ l. get_or octets 0 0 ∷ get_or octets 1 0 ∷ get_or octets 2 0 ∷ l)
    (drop-cons octets 3 0 (omega arith) ∙ ap (λ l. get_or octets 3 0 ∷ l) (drop_all 4 octets (omega arith)))

-- one of the fours, in their order
pub four_at : (k i : ℕ) (octets : List ℕ) (d : List ℕ) → i < k → get_or (first_chunks 4 k octets) i d ≡ take 4 (drop (4 * i) octets)
four_at zero i octets d none = absurd (omega (arith, none))
four_at (suc k) zero octets d within = refl
four_at (suc k) (suc i) octets d within =
    four_at k i (drop 4 octets) d (omega (arith, within))
    ∙ ap (take 4) (drop-drop (4 * i) 4 octets ∙ ap (λ n. drop n octets) (omega arith))

-- four octets as a number, the first lowest
four_bits : (a b c d : ℕ) → a < 256 → b < 256 → c < 256 → d < 256 → low_bits 32 (from_le_bytes w32 (a ∷ b ∷ c ∷ d ∷ [])) ≡ bits (a ∷ b ∷ c ∷ d ∷ [])
four_bits a b c d first second third fourth =
    let is : from_le_bytes w32 (a ∷ b ∷ c ∷ d ∷ []) ≡ a + (b + (c + d * 2 ^ 8) * 2 ^ 8) * 2 ^ 8 = omega arith in
    ap (low_bits 32) is
    ∙ above_bits a 8 (b + (c + d * 2 ^ 8) * 2 ^ 8) 24 first
    ∙ ap (λ l. low_bits 8 a ++ l)
    (above_bits b 8 (c + d * 2 ^ 8) 16 second
    ∙ ap (λ l. low_bits 8 b ++ l) (above_bits c 8 d 8 third ∙ ap (λ l. low_bits 8 c ++ l) (sym (append-nil (low_bits 8 d)))))

-- as they stand in a list
pub four_bits_at : (octets four : List ℕ) (at : ℕ) → four ≡ take 4 (drop at octets) → at + 4 ≤ length octets → ((i : ℕ) → get_or octets i 0 < 256) → bits (take at octets) ++ low_bits 32 (from_le_bytes w32 four) ≡ bits (take (at + 4) octets)
four_bits_at octets four at is within fits =
    let size : length four ≡ 4 = omega (arith, ap length is, length-take 4 (drop at octets), length-drop at octets) in
    let fit : (i : ℕ) → i < 4 → get_or four i 0 < 256 =
    λ i below. subst (λ n. n < 256) (sym (ap (λ l. get_or l i 0) is ∙ get_or-take 4 (drop at octets) i 0 below ∙ get_or-drop at octets i 0)) (fits (at + i)) in
    let named = are_four four size in
    ap (λ l. bits (take at octets) ++ l)
    (ap (λ l. low_bits 32 (from_le_bytes w32 l)) named
    ∙ four_bits (get_or four 0 0) (get_or four 1 0) (get_or four 2 0) (get_or four 3 0) (fit 0 (omega arith)) (fit 1 (omega arith)) (fit 2 (omega arith)) (fit 3 (omega arith))
    ∙ ap bits (sym named ∙ is))
    ∙ sym (bits-append (take at octets) (take 4 (drop at octets)))
    ∙ ap bits (sym (take-add at 4 octets))

-- the bits of octets are those before a place and those after it
pub bits-parts : (octets : List ℕ) (n : ℕ) → bits (take n octets) ++ bits (drop n octets) ≡ bits octets
bits-parts octets n = sym (bits-append (take n octets) (drop n octets)) ∙ ap bits (take-append-drop n octets)

-- ---- an octet goes into the buffer

pub made_given : (octets : List ℕ) (end octet : ℕ) (waits waits' : List Bool) → end < length octets → waits ≡ low_bits 8 octet ++ waits' → bits (take (end + 1) (slice_set octets end octet)) ++ waits' ≡ bits (take end octets) ++ waits
made_given octets end octet waits waits' within is = grind (arith, take-set_at, bits-push, append_assoc)
