-- Octets are read back out of a stuffed text.
use Rattle.lapd_bits.proofs.Vocabulary.{◌≡◌, ℕ, suc, zero, ◌+◌, ◌*◌, ◌/◌, ◌%◌, ◌^◌, ◌<◌, ◌≤◌, min, ⊎_elim, cases_lt, Bool, true, false, nat_eq, bit_and, List, [], ◌∷◌, ◌++◌, length, drop, get_or, replicate, refl, ap, sym, ◌∙◌, arith, append_assoc, drop-cons, drop_at, shr-shr, and_mask, lt-ltb, le-ltb, div-one, bits, low_bits, length-low_bits, length-bits, length-drop}
use Rattle.lapd_bits.proofs.Vocabulary.{length-append, length-take-le, take, take_all, take-set_at, unstuffed-counted, unstuffed_after, unstuffed_after-append, length-replicate}
use Rattle.model_bits.proofs.StuffingCounted.{unstuffed_past_five}
use mir.Val.{bool_byte}
use Rattle.std.specs.Prelude.{set}
use Rattle.std.proofs.lemmas.List.{length-set}
use Rattle.std.proofs.Math.Seq.{take-append_seam}
use Rattle.model_bits.specs.Bits.{octets_of}
use Rattle.model_bits.proofs.BitLemmas.{number_of-low_bits}
use Rattle.lapd_bits.proofs.AtOnce.{ones_after-ones, unstuffed_after-ones}
use Rattle.lapd_bits.specs.Reading.{bits_after, left_to_read}
use Rattle.lapd_bits.specs.declared.reading.Reading.{Reading}

-- ---- the bits of a text, one after the other

-- the bit at a place of a number, and those after it
bit_of : (n j x : ℕ) (rest : List Bool) → j < n → drop j (low_bits n x ++ rest) ≡ nat_eq (x / 2 ^ j % 2) 1 ∷ drop (suc j) (low_bits n x ++ rest)
unfolding low_bits
bit_of zero j x rest within = absurd (omega (arith, within))
bit_of (suc n) zero x rest within = ap (λ y. nat_eq (y % 2) 1 ∷ (low_bits n (x / 2) ++ rest)) (sym (div-one x))
bit_of (suc n) (suc j) x rest within =
    let one : 1 + j ≡ suc j = omega arith in
    bit_of n j (x / 2) rest (omega (arith, within))
    ∙ ap (λ y. nat_eq (y % 2) 1 ∷ drop (suc j) (low_bits n (x / 2) ++ rest)) (shr-shr x 1 j ∙ ap (λ k. x / 2 ^ k) one)

lowest : (y : ℕ) → y % 2 ≡ bit_and y 1
lowest y = sym (and_mask y 1)

-- there is a whole octet where there is a bit
octet_there : (text : List ℕ) (at bit : ℕ) → 1 ≤ length (drop bit (bits (drop at text))) → at < length text
octet_there text at bit some = omega (arith, some, length-drop bit (bits (drop at text)), length-bits (drop at text), length-drop at text)

pub next_bit : (text : List ℕ) (at bit : ℕ) → bit < 8 → 1 ≤ length (drop bit (bits (drop at text)))
    → drop bit (bits (drop at text)) ≡ nat_eq (bit_and (get_or text at 0 / 2 ^ bit) 1) 1 ∷ drop (bit + 1) (bits (drop at text))
next_bit text at bit within some =
    let octet = get_or text at 0 in
    let whole = drop-cons text at 0 (octet_there text at bit some) in
    let later : suc bit ≡ bit + 1 = omega arith in
    ap (λ os. drop bit (bits os)) whole
    ∙ bit_of 8 bit octet (bits (drop (suc at) text)) within
    ∙ (λ i. nat_eq (lowest (octet / 2 ^ bit) i) 1 ∷ drop (later i) (bits (sym whole i)))

-- after the last bit of an octet comes the first of the next
pub next_octet : (text : List ℕ) (at : ℕ) → at < length text → drop 8 (bits (drop at text)) ≡ bits (drop (at + 1) text)
next_octet text at within =
    let later : suc at ≡ at + 1 = omega arith in
    ap (λ os. drop 8 (bits os)) (drop-cons text at 0 within)
    ∙ drop_at (low_bits 8 (get_or text at 0)) (bits (drop (suc at) text)) 8 (length-low_bits 8 (get_or text at 0))
    ∙ ap (λ n. bits (drop n text)) later

pub last_bit : (text : List ℕ) (at bit : ℕ) → bit + 1 ≡ 8 → 1 ≤ length (drop bit (bits (drop at text)))
    → drop bit (bits (drop at text)) ≡ nat_eq (bit_and (get_or text at 0 / 2 ^ bit) 1) 1 ∷ bits (drop (at + 1) text)
last_bit text at bit last some =
    next_bit text at bit (omega (arith, last)) some
    ∙ ap (λ bs. nat_eq (bit_and (get_or text at 0 / 2 ^ bit) 1) 1 ∷ bs) (ap (λ n. drop n (bits (drop at text))) last ∙ next_octet text at (octet_there text at bit some))

-- ---- without the stuffed 0s

-- by the count of 1s
counted : (n : ℕ) (b : List Bool) → bits_after n b ≡ unstuffed_after n b
counted n b =
    ap (drop n) (unstuffed-counted (replicate n true ++ b) ∙ unstuffed_after-append 0 (replicate n true) b
    ∙ (λ i. unstuffed_after-ones 0 n i ++ unstuffed_after (ones_after-ones 0 n i) b))
    ∙ drop_at (replicate n true) (unstuffed_after (0 + n) b) n (length-replicate n true)
    ∙ ap (λ k. unstuffed_after k b) {x = 0 + n} {y = n} (omega arith)

-- a 1 stays, and is one more; five stand for more
min_below : (n : ℕ) → n < 5 → min (n + 1) 5 ≡ suc n
min_below n h = omega (arith, h)

pub one_read : (n : ℕ) (b : List Bool) → bits_after n (true ∷ b) ≡ true ∷ bits_after (min (n + 1) 5) b
one_read n b =
    counted n (true ∷ b)
    ∙ ap (λ u. true ∷ u)
    (⊎_elim (λ below. ap (λ k. unstuffed_after k b) (sym (min_below n below)))
    (λ at. let five : min (n + 1) 5 ≡ 5 = omega (arith, at) in
    unstuffed_past_five (suc n) 5 b (omega (arith, at)) (omega arith) ∙ ap (λ k. unstuffed_after k b) (sym five))
    (cases_lt n 5)
    ∙ sym (counted (min (n + 1) 5) b))

-- a 0 stays after fewer than five
pub zero_read : (n : ℕ) (b : List Bool) → n < 5 → bits_after n (false ∷ b) ≡ false ∷ bits_after 0 b
zero_read n b below = counted n (false ∷ b) ∙ rw (lt-ltb n 5 below) (ap (λ u. false ∷ u) (sym (counted 0 b)))

-- and goes after five
pub zero_passed : (n : ℕ) (b : List Bool) → 5 ≤ n → bits_after n (false ∷ b) ≡ bits_after 0 b
zero_passed n b at = counted n (false ∷ b) ∙ rw (le-ltb n 5 at) (sym (counted 0 b))

-- what is to be read has bits behind it
pub some_there : (n : ℕ) (b : List Bool) → 1 ≤ length (bits_after n b) → 1 ≤ length b
some_there n [] some = absurd (omega (arith, some, ap length (counted n [])))
some_there n (x ∷ b) some = omega arith

-- so many bits of an octet are read
pub record ReadSoFar (text : List ℕ) (from now : Reading) (octet place : ℕ) : Type 0 where
  pub read : left_to_read from text ≡ low_bits place octet ++ left_to_read now text
  pub below : octet < 2 ^ place

pub one_bit_more : (b : Bool) → low_bits 1 (bool_byte b) ≡ b ∷ []
unfolding low_bits
one_bit_more true = refl
one_bit_more false = refl

-- bits are left while eight are not read
pub bits_left : (all : List Bool) (place octet : ℕ) (left : List Bool) → all ≡ low_bits place octet ++ left → 8 ≤ length all → place < 8 → 1 ≤ length left
bits_left all place octet left is some few = omega (arith, some, few, ap length is, length-append (low_bits place octet) left, length-low_bits place octet)

-- ---- octets

-- so many octets are read, and written in place of others
pub record WrittenSoFar (all text octets : List ℕ) (reading : Reading) (place size : ℕ) : Type 0 where
  pub size_is : length octets ≡ size
  pub read : all ≡ take place octets ++ octets_of (left_to_read reading text)

-- one octet more
octet_first : (o : ℕ) (more : List Bool) → o < 256 → octets_of (low_bits 8 o ++ more) ≡ o ∷ octets_of more
unfolding low_bits
octet_first o more small = ap (λ y. y ∷ octets_of more) (number_of-low_bits 8 o small)

pub written_more : (all text octets : List ℕ) (reading later : Reading) (place size o : ℕ) → WrittenSoFar all text octets reading place size → place < size → o < 256
    → left_to_read reading text ≡ low_bits 8 o ++ left_to_read later text → WrittenSoFar all text (set octets place o) later (place + 1) size
written_more all text octets reading later place size o w within small is = record {
  size_is = length-set octets place o ∙ w.size_is;
  read = w.read ∙ ap (λ l. take place octets ++ l) (ap octets_of is ∙ octet_first o (left_to_read later text) small)
      ∙ sym (append_assoc (take place octets) (o ∷ []) (octets_of (left_to_read later text)))
      ∙ ap (λ l. l ++ octets_of (left_to_read later text)) (sym (take-set_at octets place (place + 1) o refl (omega (arith, within, w.size_is))));
}

-- while octets are left to be written, eight bits are left to be read
octets_size : (b : List Bool) → 8 * length (octets_of b) ≤ length b
octets_size (a ∷ b ∷ c ∷ d ∷ e ∷ f ∷ g ∷ h ∷ bs) = omega (arith, octets_size bs)
octets_size _ = omega arith

pub eight_left : (all text octets : List ℕ) (reading : Reading) (place size : ℕ) → WrittenSoFar all text octets reading place size → place < size → size ≤ length all
    → 8 ≤ length (left_to_read reading text)
eight_left all text octets reading place size w within whole =
    omega (
      arith,
      within,
      whole,
      w.size_is,
      ap length w.read,
      length-append (take place octets) (octets_of (left_to_read reading text)),
      length-take-le place octets (omega (arith, within, w.size_is)),
      octets_size (left_to_read reading text),
    )

-- and then all are written
pub all_written : (all text octets : List ℕ) (reading : Reading) (place size : ℕ) → WrittenSoFar all text octets reading place size → size ≤ place → octets ≡ take size all
all_written all text octets reading place size w done =
    let full : take place octets ≡ octets = take_all place octets (omega (arith, done, w.size_is)) in
    sym (ap (take size) (w.read ∙ ap (λ l. l ++ octets_of (left_to_read reading text)) full)
    ∙ ap (λ n. take n (octets ++ octets_of (left_to_read reading text))) (sym w.size_is) ∙ take-append_seam octets (octets_of (left_to_read reading text)))
