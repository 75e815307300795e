-- Hand-written answers for `is_among`.
use Rattle.std.proofs.Common.{◌+◌, ◌*◌, ◌%◌, ◌<◌, ◌==◌, arith, ap, sym, ◌∙◌}
use Rattle.std.specs.Int.{bit_at}
use Rattle.model_line.specs.declared.config.Config.{Config}
use Rattle.lapd_c.specs.Waiting.{bit_of}
use Rattle.lapd_c.proofs.Marking.{few_places}
use Rattle.lapd_c.proofs.waiting.is_among.Goals as goal

pub returns-in_default : goal.returns-in_default
returns-in_default c = λ m s. ap (bit_of c.args.waits (c.args.place % 2)) (sym c.in_default.is ∙ c.place.ensures.is m s)

pub returns-then-at : goal.returns-then-at
returns-then-at c = λ m s.
    let within : c.args.line < m.config.lines = omega (arith, c.requires, ap (λ (d : Config). d.lines) s.config) in
    let few = few_places m c.args.line _ c.in-Some.at s.reached within (sym (c.place.ensures.is m s) ∙ c.in-Some.is) in
    absurd (omega (arith, few, c.if-at.true))

pub returns : goal.returns
returns c = λ m s.
    (λ i. bit_at c.args.waits (2 * c.in-Some.at + c.from.ensures i) == 1)
    ∙ ap (bit_of c.args.waits (c.args.place % 2)) (sym c.in-Some.is ∙ c.place.ensures.is m s)
