-- Hand-written answers for `octet_digits`.
use Rattle.lapd_text.proofs.Vocabulary.{refl, ap, ◌∙◌, List, ℕ, [], ◌∷◌, arith, slice_index, to_ascii_uppercase}
use Rattle.lapd_text.proofs.OctetDigits.{ok_gives, upper_pair}
use Rattle.lapd_text.proofs.digits.octet_digits.Goals as goal

pub returns : goal.returns
returns c =
    ap (λ digit. digit ∷ c.to_ascii_uppercase-2.result ∷ []) c.to_ascii_uppercase.ensures.value
    ∙ ap (λ digit. to_ascii_uppercase (slice_index c.encode_to_slice.new.output 0) ∷ digit ∷ []) c.to_ascii_uppercase-2.ensures.value
    ∙ ap (λ (digits : List ℕ). to_ascii_uppercase (slice_index digits 0) ∷ to_ascii_uppercase (slice_index digits 1) ∷ [])
    (ok_gives c.encode_to_slice.result (c.encode_to_slice.ensures.fits.1 refl) c.encode_to_slice.ensures.written)
    ∙ upper_pair c.args.octet (omega (arith, c.ranges.octet.fits))
