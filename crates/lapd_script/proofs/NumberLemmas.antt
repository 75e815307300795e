-- What `parse` reads of decimal digits.
use Rattle.lapd_script.proofs.Vocabulary.{◌≡◌, ℕ, ◌<◌, ◌^◌, true, ◌&&◌, List, [], ◌∷◌, Ok, Err, Result, refl, sym, ap, ◌∙◌, arith, list_all, is_ascii_digit, all_ascii_digits, IsUtf8, IsAscii, digits_value, ParsesUnsigned, result_ok, IsUtf8-from_ascii, IsAscii-nil, IsAscii-cons, IsNumeralModel, numerals_by_value, tells_all_ascii_digits, parse_digits, number, within}

own : IsNumeralModel (λ word. all_ascii_digits word ≡ true) (digits_value 10)
own = numerals_by_value _ tells_all_ascii_digits

same_digits : (word : List ℕ) → list_all is_ascii_digit word ≡ all_ascii_digits word
same_digits [] = refl
same_digits (octet ∷ more) = ap (λ rest. is_ascii_digit octet && rest) (same_digits more)

digits_ascii : (word : List ℕ) → list_all is_ascii_digit word ≡ true → IsAscii word
digits_ascii [] h = IsAscii-nil
digits_ascii (octet ∷ more) h = IsAscii-cons octet more (grind (arith, h)) (digits_ascii more (grind (arith, h)))

pub digits_text : (word : List ℕ) → list_all is_ascii_digit word ≡ true → IsUtf8 word
digits_text word h = IsUtf8-from_ascii word (digits_ascii word h)

pub parsed : {E : Type 0} (low high : ℕ) (word : List ℕ) (r : Result ℕ E) → high < 2 ^ 32 → list_all is_ascii_digit word ≡ true → ParsesUnsigned 32 10 word r → number low high word ≡ within low high (result_ok r)
parsed {E} low high word (Ok value) small digits h = let p = parse_digits own {E = E} 32 word (Ok value) h (sym (same_digits word) ∙ digits) in grind (arith, p, digits)
parsed {E} low high word (Err why) small digits h = let p = parse_digits own {E = E} 32 word (Err why) h (sym (same_digits word) ∙ digits) in grind (arith, p, digits)
