-- The tables of the frame check hold what the long division leaves of each octet, and how a register goes by them.
use Rattle.lapd_bits.proofs.Vocabulary.{◌≡◌, ℕ, suc, zero, ◌≤◌, ◌+◌, ◌*◌, ◌/◌, ◌%◌, ◌^◌, ◌<◌, Bool, false, List, [], ◌∷◌, ◌++◌, length, take, drop, get_or, map, replicate, refl, sym, ap, subst, ◌∙◌, append-nil, append_assoc, length-append, mul-add, arith, mul-one, bit_xor, fold, range_with_len, length-take-le, length-drop, get_or-map-range_with_len, low_bits, bits, number_of, plus, remainder}
use Rattle.lapd_bits.proofs.Vocabulary.{dividend, HoldsDivision, LEFT, length-bits, length-low_bits, low_bits-two_octets, low_bits-number_of_n, bits-append, length-remainder, plus-append, with_bit, remainder-dividend-append}
use Rattle.std.proofs.Math.Seq.{take-add}
use Rattle.lapd_bits.proofs.Division.Feeding.{fed-met, fed-longer, remainder-first}
use Rattle.lapd_bits.proofs.Division.Word.{low_bits-xor}

-- what the division leaves of an octet with `n` zeros after it, as a register holds it
abbrev left_with : ℕ → ℕ → ℕ
left_with n octet = number_of (remainder (low_bits 8 octet ++ replicate n false))

-- a table for no octet of zeros after each octet, then for one, and so on
left_is : LEFT ≡ map (λ zeros. map (left_with (8 * zeros + 16)) (range_with_len 0 256)) (range_with_len 0 8)
unfolding low_bits
left_is = refl

-- the bits of what is left are the remainder
low_bits-left_with : (n octet : ℕ) → low_bits 16 (left_with n octet) ≡ remainder (low_bits 8 octet ++ replicate n false)
low_bits-left_with n octet =
    low_bits-number_of_n 16 (remainder (low_bits 8 octet ++ replicate n false)) (length-remainder (low_bits 8 octet ++ replicate n false))

pub left_at : (octet zeros : ℕ) → octet < 256 → zeros < 8 → low_bits 16 (get_or (get_or LEFT zeros []) octet 0) ≡ remainder (low_bits 8 octet ++ replicate (8 * zeros + 16) false)
left_at octet zeros small few =
    ap (λ t. low_bits 16 (get_or (get_or t zeros []) octet 0)) left_is
    ∙ ap (λ t. low_bits 16 (get_or t octet 0)) (get_or-map-range_with_len (λ n. map (left_with (8 * n + 16)) (range_with_len 0 256)) 0 8 zeros zeros [] few (omega arith))
    ∙ ap (low_bits 16) (get_or-map-range_with_len (left_with (8 * zeros + 16)) 0 256 octet octet 0 small (omega arith))
    ∙ low_bits-left_with (8 * zeros + 16) octet

-- an octet moved down in a register, with zeros above
low_bits-moved : (register : ℕ) → register < 2 ^ 16 → low_bits 16 (register / 256) ≡ low_bits 8 (register / 256) ++ replicate 8 false
unfolding low_bits
low_bits-moved register small =
    let low : register / 256 % 256 ≡ register / 256 = omega arith in
    let none : register / 256 / 256 ≡ 0 = omega arith in
    low_bits-two_octets (register / 256)
    ∙ ap (λ y. low_bits 8 y ++ low_bits 8 (register / 256 / 256)) low
    ∙ ap (λ y. low_bits 8 (register / 256) ++ low_bits 8 y) none

-- an octet more by the table
pub HoldsDivision_by_octet :
    (register octet left : ℕ) (d : List Bool) → register < 2 ^ 16
    → low_bits 16 left ≡ remainder (low_bits 8 (bit_xor (register % 256) octet) ++ replicate 16 false)
    → HoldsDivision register d → HoldsDivision (bit_xor (register / 256) left) (d ++ low_bits 8 octet)
HoldsDivision_by_octet register octet left d small entry holds =
    let low = low_bits 8 (register % 256) in
    let high = low_bits 8 (register / 256) in
    let text = low_bits 8 octet in
    let size : length (low ++ high) ≡ 16 =
    omega (arith, length-append low high, length-low_bits 8 (register % 256), length-low_bits 8 (register / 256)) in
    let same : length text ≡ length low = length-low_bits 8 octet ∙ sym (length-low_bits 8 (register % 256)) in
    low_bits-xor 16 (register / 256) left
    ∙ ap (λ l. plus l (low_bits 16 left)) (low_bits-moved register small)
    ∙ ap (λ n. plus (high ++ replicate n false) (low_bits 16 left)) (sym (length-low_bits 8 (register % 256)))
    ∙ ap (λ l. plus (high ++ replicate (length low) false) l)
    (entry ∙ ap (λ l. remainder (l ++ replicate 16 false)) (low_bits-xor 8 (register % 256) octet))
    ∙ sym (fed-met low high text size same)
    ∙ ap (λ l. fold with_bit l text) (sym (low_bits-two_octets register) ∙ holds)
    ∙ sym (remainder-dividend-append d text)

-- ---- many octets more

-- what is left of octets, that of the first by the table
pub left-more :
    (x left octet : ℕ) (octets : List ℕ) (n : ℕ) → length octets ≡ n
    → low_bits 16 x ≡ remainder (low_bits 8 octet ++ replicate (8 * n + 16) false)
    → low_bits 16 left ≡ remainder (bits octets ++ replicate 16 false)
    → low_bits 16 (bit_xor x left) ≡ remainder (bits (octet ∷ octets) ++ replicate 16 false)
left-more x left octet octets n size x_is left_is =
    let rest = remainder (bits octets ++ replicate 16 false) in
    low_bits-xor 16 x left
    ∙ ap (λ l. plus l (low_bits 16 left)) x_is
    ∙ ap (λ l. plus (remainder (low_bits 8 octet ++ replicate (8 * n + 16) false)) l) left_is
    ∙ ap (λ m. plus (remainder (low_bits 8 octet ++ replicate (m + 16) false)) rest) (ap (λ k. 8 * k) (sym size) ∙ sym (length-bits octets))
    ∙ sym (remainder-first (low_bits 8 octet) (bits octets))

-- ---- octets of a text

-- some octets of a text, the first apart
pub take-drop-next : (n at : ℕ) (octets : List ℕ) → at < length octets → take (suc n) (drop at octets) ≡ get_or octets at 0 ∷ take n (drop (at + 1) octets)
take-drop-next n at [] h = absurd (omega arith)
take-drop-next n zero (o ∷ octets) h = refl
take-drop-next n (suc at) (o ∷ octets) h =
    let next : suc (at + 1) ≡ suc at + 1 = omega arith in
    take-drop-next n at octets (omega arith) ∙ ap (λ k. get_or octets at 0 ∷ take n (drop k (o ∷ octets))) next

length-part : (n at : ℕ) (octets : List ℕ) → at + n ≤ length octets → length (take n (drop at octets)) ≡ n
length-part n at octets h = length-take-le n (drop at octets) (omega (arith, length-drop at octets))

-- what is left of some, that of the first by the table
pub left-next :
    (n at next : ℕ) (octets : List ℕ) (x left : ℕ) → next ≡ at + 1 → at + 1 + n ≤ length octets
    → low_bits 16 x ≡ remainder (low_bits 8 (get_or octets at 0) ++ replicate (8 * n + 16) false)
    → low_bits 16 left ≡ remainder (bits (take n (drop next octets)) ++ replicate 16 false)
    → low_bits 16 (bit_xor x left) ≡ remainder (bits (take (suc n) (drop at octets)) ++ replicate 16 false)
left-next n at next octets x left is_next within x_is left_is =
    let others = take n (drop next octets) in
    left-more x left (get_or octets at 0) others n (length-part n next octets (omega arith)) x_is left_is
    ∙ ap (λ k. remainder (bits (get_or octets at 0 ∷ take n (drop k octets)) ++ replicate 16 false)) is_next
    ∙ ap (λ os. remainder (bits os ++ replicate 16 false)) (sym (take-drop-next n at octets (omega arith)))

-- and of the last
pub left-last :
    (at : ℕ) (octets : List ℕ) (x : ℕ) → at < length octets
    → low_bits 16 x ≡ remainder (low_bits 8 (get_or octets at 0) ++ replicate 16 false)
    → low_bits 16 x ≡ remainder (bits (take 1 (drop at octets)) ++ replicate 16 false)
left-last at octets x within is =
    is
    ∙ ap (λ l. remainder (l ++ replicate 16 false)) (sym (append-nil (low_bits 8 (get_or octets at 0))))
    ∙ ap (λ os. remainder (bits os ++ replicate 16 false)) (sym (take-drop-next 0 at octets within))

-- octets of which the first two meet the register
pub HoldsDivision-octets :
    (register first second left : ℕ) (octets : List ℕ) (d : List Bool)
    → low_bits 16 left ≡ remainder (bits (bit_xor (register % 256) first ∷ bit_xor (register / 256) second ∷ octets) ++ replicate 16 false)
    → HoldsDivision register d → HoldsDivision left (d ++ bits (first ∷ second ∷ octets))
HoldsDivision-octets register first second left octets d is holds =
    let low = low_bits 8 (register % 256) in
    let high = low_bits 8 (register / 256) in
    let text : List Bool = low_bits 8 first ++ low_bits 8 second in
    let met_first = low_bits 8 (bit_xor (register % 256) first) in
    let met_second = low_bits 8 (bit_xor (register / 256) second) in
    let size : length (low ++ high) ≡ 16 =
    omega (arith, length-append low high, length-low_bits 8 (register % 256), length-low_bits 8 (register / 256)) in
    let text_size : length text ≡ 16 =
    omega (arith, length-append (low_bits 8 first) (low_bits 8 second), length-low_bits 8 first, length-low_bits 8 second) in
    let lows : length low ≡ length (low_bits 8 first) = length-low_bits 8 (register % 256) ∙ sym (length-low_bits 8 first) in
    let met : plus (low ++ high) text ≡ met_first ++ met_second =
    plus-append low (low_bits 8 first) high (low_bits 8 second) lows
    ∙ ap (λ l. l ++ plus high (low_bits 8 second)) (sym (low_bits-xor 8 (register % 256) first))
    ∙ ap (λ l. met_first ++ l) (sym (low_bits-xor 8 (register / 256) second)) in
    is
    ∙ ap (λ l. remainder (l ++ replicate 16 false)) (sym (append_assoc met_first met_second (bits octets)) ∙ ap (λ l. l ++ bits octets) (sym met))
    ∙ sym (fed-longer (low ++ high) text (bits octets) size text_size)
    ∙ ap (λ l. fold with_bit l (text ++ bits octets)) (sym (low_bits-two_octets register) ∙ holds)
    ∙ ap (λ l. fold with_bit (remainder (dividend d)) l) (append_assoc (low_bits 8 first) (low_bits 8 second) (bits octets))
    ∙ sym (remainder-dividend-append d (bits (first ∷ second ∷ octets)))

-- eight octets more of a text
pub HoldsDivision_eight :
    (register first second others at : ℕ) (octets : List ℕ) (d : List Bool) → at + 8 ≤ length octets
    → low_bits 16 first ≡ remainder (low_bits 8 (bit_xor (register % 256) (get_or octets at 0)) ++ replicate 72 false)
    → low_bits 16 second ≡ remainder (low_bits 8 (bit_xor (register / 256) (get_or octets (at + 1) 0)) ++ replicate 64 false)
    → low_bits 16 others ≡ remainder (bits (take 6 (drop (at + 2) octets)) ++ replicate 16 false)
    → HoldsDivision register d
    → HoldsDivision (bit_xor first (bit_xor second others)) (d ++ bits (take 8 (drop at octets)))
HoldsDivision_eight register first second others at octets d within first_is second_is others_is holds =
    let a = get_or octets at 0 in
    let b = get_or octets (at + 1) 0 in
    let six = take 6 (drop (at + 2) octets) in
    let met_a = bit_xor (register % 256) a in
    let met_b = bit_xor (register / 256) b in
    let place : at + 2 ≡ at + 1 + 1 = omega arith in
    let size : length six ≡ 6 = length-part 6 (at + 2) octets (omega arith) in
    let two = left-more second others met_b six 6 size second_is others_is in
    let all = left-more first (bit_xor second others) met_a (met_b ∷ six) 7 (omega (arith, size)) first_is two in
    subst (λ os. HoldsDivision (bit_xor first (bit_xor second others)) (d ++ bits os))
    (ap (λ k. a ∷ b ∷ take 6 (drop k octets)) place
    ∙ sym (take-drop-next 7 at octets (omega arith) ∙ ap (λ os. a ∷ os) (take-drop-next 6 (at + 1) octets (omega arith))))
    (HoldsDivision-octets register a b (bit_xor first (bit_xor second others)) six d all holds)

-- two octets more of a text
pub HoldsDivision_two :
    (register first second at : ℕ) (octets : List ℕ) (d : List Bool) → at + 2 ≤ length octets
    → low_bits 16 first ≡ remainder (low_bits 8 (bit_xor (register % 256) (get_or octets at 0)) ++ replicate 24 false)
    → low_bits 16 second ≡ remainder (low_bits 8 (bit_xor (register / 256) (get_or octets (at + 1) 0)) ++ replicate 16 false)
    → HoldsDivision register d
    → HoldsDivision (bit_xor first second) (d ++ bits (take 2 (drop at octets)))
HoldsDivision_two register first second at octets d within first_is second_is holds =
    let a = get_or octets at 0 in
    let b = get_or octets (at + 1) 0 in
    let met_a = bit_xor (register % 256) a in
    let met_b = bit_xor (register / 256) b in
    let one : low_bits 16 second ≡ remainder (bits (met_b ∷ []) ++ replicate 16 false) =
    second_is ∙ ap (λ l. remainder (l ++ replicate 16 false)) (sym (append-nil (low_bits 8 met_b))) in
    let both = left-more first second met_a (met_b ∷ []) 1 refl first_is one in
    subst (λ os. HoldsDivision (bit_xor first second) (d ++ bits os))
    (sym (take-drop-next 1 at octets (omega arith) ∙ ap (λ os. a ∷ os) (take-drop-next 0 (at + 1) octets (omega arith))))
    (HoldsDivision-octets register a b (bit_xor first second) [] d both holds)

-- one step of a text more
pub bits-take_step :
    (size steps : ℕ) (octets : List ℕ)
    → bits (take (size * steps) octets) ++ bits (take size (drop (size * steps) octets)) ≡ bits (take (size * (steps + 1)) octets)
bits-take_step size steps octets = grind (arith, bits-append, take-add, mul-add, mul-one)
