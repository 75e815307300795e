-- Hand-written answers for `value`.
use Rattle.lapd_script.proofs.Vocabulary.{sym, subst, List, ℕ, ParsesUnsigned}
use Rattle.lapd_script.proofs.NumberLemmas.{parsed, digits_text}
use Rattle.lapd_script.proofs.values.value.Goals as goal

pub returns-in_default : goal.returns-in_default
returns-in_default c = absurd (c.in_default.ensures.cases.0 (digits_text c.args.word.now (sym c.if-not-are_digits.ensures)))

pub returns : goal.returns
returns c = λ low high small.
    rw c.ok.ensures.value
    (parsed low high c.args.word.now c.parse.result small (sym c.if-not-are_digits.ensures)
    (subst (λ (word : List ℕ). ParsesUnsigned 32 10 word c.parse.result) c.in-Ok.ensures.cases.0 c.parse.ensures.value.0))
