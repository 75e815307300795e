-- Hand-written answers for `Entity::number`.
use Rattle.lapd_link_steps.proofs.Vocabulary.{true, false, by_number, particulars, effect_of}
use Rattle.lapd_link_steps.proofs.Steps.{number_yes, number_no, with_known}
use Rattle.lapd_link_steps.proofs.entity.Entity.number.Goals as goal

pub returns-then-not-names-clause-does : goal.returns-then-not-names-clause-does
returns-then-not-names-clause-does c = λ info.
    number_no c.args.nr (effect_of (particulars c.args.recovering c.args.terms.now) c.args.by c.args.is_final) c.names.result c.names.ensures.named c.if-not-names.true (c.failed.ensures.does info)

pub returns-then-recovering-clause-does : goal.returns-then-recovering-clause-does
returns-then-recovering-clause-does c = λ info.
    with_known (λ b. by_number c.args.terms.now c.args.nr (effect_of (particulars b c.args.terms.now) c.args.by c.args.is_final)) c.args.recovering true c.if-recovering.true
    (number_yes c.names.result c.names.ensures.named c.if-not-names.false (c.acknowledged_in_8.ensures.does c.args.terms.now info))

pub returns-clause-does : goal.returns-clause-does
returns-clause-does c = λ info.
    with_known (λ b. by_number c.args.terms.now c.args.nr (effect_of (particulars b c.args.terms.now) c.args.by c.args.is_final)) c.args.recovering false c.if-recovering.false
    (number_yes c.names.result c.names.ensures.named c.if-not-names.false (c.acknowledged_in_7.ensures.does c.args.terms.now info c.args.is_final))
