-- Hand-written answers for `+decimal`.
use Rattle.lapd_text.proofs.Vocabulary.{◌∙◌, arith, ap, ◌∷◌, [], ◌++◌, ◌+◌, lit<, List, ℕ}
use Rattle.lapd_text.proofs.Numerals.{one_digit, last_digit, few_digits}
use Rattle.lapd_text.proofs.digits.+decimal.Goals as goal

pub returns-then-number-lt10 : goal.returns-then-number-lt10
returns-then-number-lt10 t c =
    c.push.ensures.items ∙ ap (λ (front : List ℕ). front ++ (48 + c.args.number) ∷ []) c.new-digits.ensures ∙ one_digit c.args.number c.if-number-lt10.true

pub push-requires-2 : goal.push-requires-2
push-requires-2 t c = (lit< tt, few_digits c.args.number c.decimal-digits.result.items (omega (arith, c.ranges.number.fits)) c.decimal-digits.ensures)

pub returns : goal.returns
returns t c =
    c.push-2.ensures.items ∙ last_digit c.args.number c.decimal-digits.result.items c.if-number-lt10.false (omega (arith, c.ranges.number.fits)) c.decimal-digits.ensures
