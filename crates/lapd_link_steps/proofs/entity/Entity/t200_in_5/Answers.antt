-- Hand-written answers for `Entity::t200_in_5`.
use Rattle.lapd_link_steps.proofs.Vocabulary.{true, sym, ◌∙◌, Sabme, TeiAssigned, T200, may_repeat, ◌then◌}
use Rattle.lapd_frame.specs.declared.notes.ErrorCode.TheVariants as code
use Rattle.model_link.specs.AwaitingEstablishment as row
use Rattle.model_link.specs.Words as word
use Rattle.lapd_link_steps.proofs.Steps.{◌▹◌, where_yes, where_no, repeats_more, state_set}
use Rattle.lapd_link_steps.proofs.entity.Entity.t200_in_5.Goals as goal

pub returns-then-may_repeat-clause-does : goal.returns-then-may_repeat-clause-does
returns-then-may_repeat-clause-does c = λ info.
    where_yes (may_repeat c.args.terms.now) (word.discard then word.error c.args.terms.now code.G then row.tell_failure c.args.terms.now then word.no_timer then word.enter TeiAssigned)
    (λ messages p fits. sym (c.may_repeat.ensures.machine p) ∙ c.if-may_repeat.true)
    (c.command.ensures.does info ▹ repeats_more ▹ c.start_timer.ensures.does _ info)

pub returns-clause-does : goal.returns-clause-does
returns-clause-does c = λ info.
    where_no (may_repeat c.args.terms.now) (word.send c.args.terms.now (word.command (Sabme true)) then word.repeated then word.start T200)
    (λ messages p fits. sym (c.may_repeat.ensures.machine p) ∙ c.if-may_repeat.false)
    (c.discard.ensures.does _ info ▹ c.error.ensures.does _ _ _ ▹ c.tell_failure.ensures.does info ▹ c.no_timer.ensures.does _ info ▹ state_set)
