-- Words that are longer than the digits of any frame.
use Rattle.lapd_script.proofs.Vocabulary.{◌≡◌, ℕ, ◌*◌, ◌%◌, ◌<◌, Bool, true, false, ◌&&◌, if◌then◌else◌, List, [], ◌∷◌, length, get_or, Some, None, is_some, Ok, Err, refl, ap, sym, ◌∙◌, arith, codes, bytes_eq, nat_eq, list_all, AllPass, is_ascii_hexdigit, is_in_range, false≢true, AllPass-from_list_all, list_all-from_AllPass, decode_of, is_hex_digit, decode_of-digits}
use Rattle.lapd_script.proofs.Vocabulary.{decode_of-ok, BadOctets, octets, or_bad}
use Rattle.std.proofs.Common.{◌||◌}

-- ---- two ways to tell a hexadecimal digit

in_any : (x y z : Bool) (a b c : ℕ) → ((z || x) || y) ≡ is_some (if x then Some a else if y then Some b else if z then Some c else None)
in_any x y z a b c = grind arith

same_digits : (c : ℕ) → is_ascii_hexdigit c ≡ is_hex_digit c
same_digits c = in_any (is_in_range 65 70 c) (is_in_range 97 102 c) (is_in_range 48 57 c) _ _ _

-- ---- what such words stand for

neither : (a b : Bool) → b ≡ false → (a && b) ≡ false
neither true b h = h
neither false b h = refl

no_dash : (digits : List ℕ) → 2 * 1028 < length digits → bytes_eq digits (codes "-") ≡ false
no_dash [] h = absurd (omega (arith, h))
no_dash (a ∷ []) h = absurd (omega (arith, h))
no_dash (a ∷ b ∷ more) h = neither (nat_eq a 45) false refl

decoded : (digits : List ℕ) → 2 * 1028 < length digits → octets digits ≡ or_bad (decode_of digits)
decoded digits long = ap (λ b. if b then Ok [] else or_bad (decode_of digits)) (no_dash digits long)

-- an even number of digits is too many octets,
pub long_digits : (digits : List ℕ) → 2 * 1028 < length digits → length digits % 2 ≡ 0 → list_all is_ascii_hexdigit digits ≡ true → (sent : List ℕ) × (octets digits ≡ Ok sent) × (1028 < length sent)
long_digits digits long even h =
    let ascii = AllPass-from_list_all is_ascii_hexdigit digits h in
    let hex : AllPass is_hex_digit digits = λ k d low. sym (same_digits (get_or digits k d)) ∙ ascii k d low in
    let is = decode_of-digits digits even hex in
    let size : length digits ≡ 2 * length is.0 = (decode_of-ok digits is.0 is.1).2 in
    (is.0, decoded digits long ∙ ap or_bad is.1, omega (arith, size, long))

-- and other words are none: what is none is not such a number of digits
refused : (digits : List ℕ) → 2 * 1028 < length digits → ((bytes : List ℕ) → decode_of digits ≡ Ok bytes → ⊥) → octets digits ≡ Err BadOctets
refused digits long none = grind (arith, decoded)

pub long_others : (digits : List ℕ) → 2 * 1028 < length digits → list_all is_ascii_hexdigit digits ≡ false → octets digits ≡ Err BadOctets
long_others digits long others =
    refused digits long
    (λ bytes e.
    let hex = (decode_of-ok digits bytes e).1 in
    let ascii : AllPass is_ascii_hexdigit digits = λ k d low. same_digits (get_or digits k d) ∙ hex k d low in
    false≢true (sym others ∙ list_all-from_AllPass is_ascii_hexdigit digits ascii))

pub long_odd : (digits : List ℕ) → 2 * 1028 < length digits → (length digits % 2 ≡ 0 → ⊥) → octets digits ≡ Err BadOctets
long_odd digits long odd = refused digits long (λ bytes e. odd (decode_of-ok digits bytes e).0)
