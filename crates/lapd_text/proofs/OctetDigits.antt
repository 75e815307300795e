-- The digits of octets.
use Rattle.lapd_text.proofs.Vocabulary.{◌≡◌, ℕ, suc, ◌+◌, ◌++◌, sym, take, length, get_or, take_more, flat_map-append, append-nil, Result, Ok, Err, IsOk, OnOk, false≢true, ◌<◌, ◌/◌, ◌%◌, List, [], ◌∷◌, refl, ap, ◌∙◌, arith, slice_index, flat_map, to_ascii_uppercase, encode_with, encode_upper, encode_lower, upper_digits, lower_digits}

-- one octet after the other
pub encoded_singly : (octets : List ℕ) → flat_map (λ octet. encode_upper (octet ∷ [])) octets ≡ encode_upper octets
unfolding encode_with
encoded_singly [] = refl
encoded_singly (octet ∷ more) = ap (λ digits. slice_index upper_digits (octet / 16) ∷ slice_index upper_digits (octet % 16) ∷ digits) (encoded_singly more)

pub two_octets : (high low : ℕ) → encode_upper (high ∷ []) ++ encode_upper (low ∷ []) ≡ encode_upper (high ∷ low ∷ [])
unfolding encode_with
two_octets high low = refl

-- one digit in upper case
upper_digit : (n : ℕ) → n < 16 → to_ascii_uppercase (slice_index lower_digits n) ≡ slice_index upper_digits n
upper_digit (suc (suc (suc (suc (suc (suc (suc (suc (suc (suc (suc (suc (suc (suc (suc (suc n)))))))))))))))) h = absurd (omega (arith, h))
upper_digit _ h = refl

-- and the two of an octet
pub upper_pair : (octet : ℕ) → octet < 256 → to_ascii_uppercase (slice_index (encode_lower (octet ∷ [])) 0) ∷ to_ascii_uppercase (slice_index (encode_lower (octet ∷ [])) 1) ∷ [] ≡ encode_upper (octet ∷ [])
unfolding encode_with
upper_pair octet small = grind (arith, upper_digit)

-- one octet more
pub one_more : (octets : List ℕ) (i d : ℕ) → i < length octets → encode_upper (take (i + 1) octets) ≡ encode_upper (take i octets) ++ encode_upper (get_or octets i d ∷ [])
one_more octets i d h =
    let each = λ (octet : ℕ). encode_upper (octet ∷ []) in
    sym (encoded_singly (take (i + 1) octets))
    ∙ ap (flat_map each) (take_more octets i d h)
    ∙ flat_map-append each (take i octets) (get_or octets i d ∷ [])
    ∙ ap (λ text. flat_map each (take i octets) ++ text) (append-nil (each (get_or octets i d)))
    ∙ ap (λ text. text ++ each (get_or octets i d)) (encoded_singly (take i octets))

pub ok_gives : {A E P : Type 0} (r : Result A E) → IsOk r → OnOk r P → P
ok_gives (Ok x) h p = p
ok_gives (Err e) h p = absurd (false≢true h)
