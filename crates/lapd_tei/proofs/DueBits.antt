-- Which checks are due, as bits of one octet.
use Rattle.std.proofs.Common.{arith, ◌≡◌, ℕ, suc, ◌+◌, ◌-◌, ◌*◌, ◌/◌, ◌%◌, ◌==◌, ◌^◌, ◌<◌, ◌≤◌, Bool, true, false, List, [], ◌∷◌, ◌++◌, length, take, get_or, add-one, ap, subst, sym, ◌∙◌, length-take, Option}
use Rattle.std.proofs.Math.Nat.{pow-suc, pow-le-pow_right}
use Rattle.std.proofs.Math.Seq.{take-suc}
use Rattle.model_bits.specs.Bits.{bit_value, low_bits, number_of}
use Rattle.model_bits.proofs.BitLemmas.{low_bits-number_of_n, number_of-lt}
use Rattle.lapd_image.specs.Reads.{HasNone}
use Rattle.lapd_image.proofs.Reading.{heads}
use Rattle.model_teis.specs.network.Image.{IsDueOf, due}
use Rattle.lapd_tei.proofs.Vocabulary.{Check, Places, Reading}

-- one bit more, above the others
number_push : (bits : List Bool) (bit : Bool) → number_of (bits ++ bit ∷ []) ≡ number_of bits + bit_value bit * 2 ^ length bits
number_push [] true = omega arith
number_push [] false = omega arith
number_push (b ∷ bits) true = omega (arith, pow-suc 2 (length bits), number_push bits true)
number_push (b ∷ bits) false = omega (arith, number_push bits false)

pub number_next : (bits : List Bool) (i : ℕ) → i < length bits → number_of (take (i + 1) bits) ≡ number_of (take i bits) + bit_value (get_or bits i false) * 2 ^ i
number_next bits i within =
    let size : length (take i bits) ≡ i = omega (arith, length-take i bits) in
    ap (λ n. number_of (take n bits)) (add-one i) ∙ ap number_of (take-suc bits i false within) ∙ number_push (take i bits) (get_or bits i false)
    ∙ ap (λ n. number_of (take i bits) + bit_value (get_or bits i false) * 2 ^ n) size

-- It is an octet, as there are at most eight.
pub number_few : (bits : List Bool) (i : ℕ) → i < length bits → length bits ≤ 8 → (number_of (take i bits) < 128) × (2 ^ i ≤ 128)
number_few bits i within few =
    let size : length (take i bits) ≡ i = omega (arith, length-take i bits) in
    let most : 2 ^ i ≤ 2 ^ 7 = pow-le-pow_right (omega arith) {i = i} {j = 7} (omega arith) in
    let low : number_of (take i bits) < 2 ^ i = subst (λ n. number_of (take i bits) < 2 ^ n) size (number_of-lt (take i bits)) in
    (omega (arith, low, most), most)

-- The bits of an octet that are left, the lowest first.
pub bits-next : (n i left : ℕ) → i < n → low_bits (n - i) left ≡ (left % 2 == 1) ∷ low_bits (n - (i + 1)) (left / 2)
unfolding low_bits
bits-next n i left within = let more : n - i ≡ suc (n - (i + 1)) = omega (arith, within) in ap (λ k. low_bits k left) more

pub bits-end : (n i left : ℕ) → n ≤ i → low_bits (n - i) left ≡ []
unfolding low_bits
bits-end n i left past = let none : n - i ≡ 0 = omega (arith, past) in ap (λ k. low_bits k left) none

-- The checks that are due are those that their octet says.
pub due-refused : (reading : Reading) (places : Places) (check : Option Check) (all : List Bool) {octet : ℕ} {front left : List ℕ} → front ≡ octet ∷ left
    → all ≡ low_bits (length places) octet → (number_of all ≡ octet → IsDueOf reading places check all → ⊥) → HasNone due (IsDueOf reading places check) front
due-refused reading places check all {octet} {front} {left} read bits refused value rest good e =
    let is : number_of value ≡ octet = heads (sym e ∙ read) in
    let same : value ≡ all = sym (low_bits-number_of_n (length places) value good.sound.each) ∙ ap (low_bits (length places)) is ∙ sym bits in
    refused (ap number_of (sym same) ∙ is) (subst (IsDueOf reading places check) same good)
