-- Hand-written answers for `words`.
use Rattle.lapd_text.proofs.Vocabulary.{◌≡◌, ◌∙◌, [], ◌∷◌, ap, codes, decimal, refl, encode_upper}
use Rattle.lapd_text.proofs.OctetDigits.{two_octets}
use Rattle.lapd_text.proofs.Pieces.{message_is, piece_is}
use Rattle.lapd_text.proofs.messages.words.Goals as goal

pub returns : goal.returns
returns c =
    let space : c.as_slice.result.now ≡ codes " " = c.as_slice.ensures in
    let high : c.as_slice-2.result.now ≡ encode_upper (c.args.high ∷ []) = c.as_slice-2.ensures ∙ c.octet_digits-high.ensures in
    let low : c.as_slice-3.result.now ≡ encode_upper (c.args.low ∷ []) = c.as_slice-3.ensures ∙ c.octet_digits-low.ensures in
    let action : c.as_slice-4.result.now ≡ decimal c.args.action = c.as_slice-4.ensures.value ∙ c.decimal-action.ensures ∙ ap decimal c.from.ensures in
    c.joined.ensures
    ∙ piece_is _ (codes " ") _ _ space
    (piece_is _ c.args.name.now _ _ refl
    (piece_is _ (codes ", Ri ") _ _ refl
    (piece_is _ (encode_upper (c.args.high ∷ [])) _ _ high
    (piece_is _ (encode_upper (c.args.low ∷ [])) _ _ low
    (piece_is _ (codes ", Ai ") _ _ refl
    (piece_is _ (decimal c.args.action) _ [] action refl))))))
    ∙ message_is c.args.name.now (encode_upper (c.args.high ∷ [])) (encode_upper (c.args.low ∷ [])) (encode_upper (c.args.high ∷ c.args.low ∷ []))
    (decimal c.args.action) (two_octets c.args.high c.args.low)
