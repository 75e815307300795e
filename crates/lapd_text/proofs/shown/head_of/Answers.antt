-- Hand-written answers for `head_of`.
use Rattle.lapd_text.proofs.Vocabulary.{◌≡◌, [], codes, decimal, if◌then◌else◌, refl, ◌∙◌, ap, arith, append_assoc, sym, subst, List, ℕ, length, ◌≤◌, parts_of, fields}
use Rattle.lapd_text.proofs.Pieces.{number_is, one_of_short, piece_is, short_head}
use Rattle.lapd_text.proofs.shown.head_of.Goals as goal

pub returns : goal.returns
returns c =
    let frame = parts_of c.args.frame.now in
    let said = fields frame.control in
    let command = frame.address.command in
    let bit : c.one_of-5.result.now ≡ (if said.bit then codes "1" else codes "0") = c.one_of-5.ensures ∙ ap (λ b. if b then codes "1" else codes "0") c.fields_of-ns.ensures.bit in
    let sapi : c.as_slice-2.result.now ≡ decimal frame.address.sapi = c.as_slice-2.ensures.value ∙ c.decimal-sapi.ensures ∙ ap decimal c.from.ensures in
    let tei : c.as_slice-3.result.now ≡ decimal frame.address.tei = c.as_slice-3.ensures.value ∙ c.decimal-tei.ensures ∙ ap decimal c.from-2.ensures in
    let sapi_word : c.as_slice.result.now ≡ codes "sapi " = c.as_slice.ensures in
    c.joined.ensures
    ∙ piece_is _ (codes "sapi ") _ _ sapi_word
    (piece_is _ (decimal frame.address.sapi) _ _ sapi
    (piece_is _ (codes " tei ") _ _ refl
    (piece_is _ (decimal frame.address.tei) _ _ tei
    (piece_is _ (if command then codes " command " else codes " response ") _ _ c.one_of.ensures
    (piece_is _ said.name _ _ c.fields_of-ns.ensures.name
    (number_is (codes " ns ") _ _ _ _ c.is_some.result c.fields_of-ns.result.1 said.ns c.fields_of-ns.ensures.ns c.is_some.ensures c.one_of-2.ensures (c.as_slice-4.ensures.value ∙ c.digits_of-ns_digits.ensures)
    (number_is (codes " nr ") _ _ _ _ c.is_some-2.result c.fields_of-ns.result.2 said.nr c.fields_of-ns.ensures.nr c.is_some-2.ensures c.one_of-3.ensures (c.as_slice-5.ensures.value ∙ c.digits_of-nr_digits.ensures)
    (piece_is _ (if command then codes " p " else codes " f ") _ _ c.one_of-4.ensures
    (piece_is _ (if said.bit then codes "1" else codes "0") _ _ bit
    refl)))))))))
    ∙ simp append_assoc

-- each piece is short, as it is a word, or digits of a number of 64 bits
pub joined-requires : goal.joined-requires
joined-requires c =
    let sapi_word : c.as_slice.result.now ≡ codes "sapi " = c.as_slice.ensures in
    let sapi : length c.as_slice-2.result.now ≤ 20 = c.as_slice-2.ensures.fits in
    let tei : length c.as_slice-3.result.now ≤ 20 = c.as_slice-3.ensures.fits in
    let ns : length c.as_slice-4.result.now ≤ 20 = c.as_slice-4.ensures.fits in
    let nr : length c.as_slice-5.result.now ≤ 20 = c.as_slice-5.ensures.fits in
    short_head c.as_slice.result.now c.as_slice-2.result.now c.as_slice-3.result.now c.one_of.result.now c.fields_of-ns.result.0.now c.one_of-2.result.now c.as_slice-4.result.now c.one_of-3.result.now
    c.as_slice-5.result.now c.one_of-4.result.now c.one_of-5.result.now
    (subst (λ (l : List ℕ). length l ≤ 5) (sym sapi_word) (omega arith)) sapi tei
    (one_of_short c.args.frame.now.address.command (codes " command ") (codes " response ") c.one_of.result.now 10 (omega arith) (omega arith) c.one_of.ensures)
    c.fields_of-ns.ensures.short
    (one_of_short c.is_some.result (codes " ns ") [] c.one_of-2.result.now 4 (omega arith) (omega arith) c.one_of-2.ensures) ns
    (one_of_short c.is_some-2.result (codes " nr ") [] c.one_of-3.result.now 4 (omega arith) (omega arith) c.one_of-3.ensures) nr
    (one_of_short c.args.frame.now.address.command (codes " p ") (codes " f ") c.one_of-4.result.now 3 (omega arith) (omega arith) c.one_of-4.ensures)
    (one_of_short c.fields_of-ns.result.3 (codes "1") (codes "0") c.one_of-5.result.now 1 (omega arith) (omega arith) c.one_of-5.ensures)
