-- Hand-written answers for `Entity::t200_in_8`.
use Rattle.lapd_link_steps.proofs.Vocabulary.{sym, ◌∙◌, T200, may_repeat, ◌then◌, failed}
use Rattle.lapd_frame.specs.declared.notes.ErrorCode.TheVariants as code
use Rattle.model_link.specs.Words as word
use Rattle.lapd_link_steps.proofs.Steps.{◌▹◌, where_yes, where_no, repeats_more}
use Rattle.lapd_link_steps.proofs.entity.Entity.t200_in_8.Goals as goal

pub returns-then-may_repeat-clause-does : goal.returns-then-may_repeat-clause-does
returns-then-may_repeat-clause-does c = λ info.
    where_yes (may_repeat c.args.terms.now) (failed c.args.terms.now code.I)
    (λ messages p fits. sym (c.may_repeat.ensures.machine p) ∙ c.if-may_repeat.true)
    (c.enquire.ensures.does info ▹ repeats_more ▹ c.start_timer.ensures.does _ info)

pub returns-clause-does : goal.returns-clause-does
returns-clause-does c = λ info.
    where_no (may_repeat c.args.terms.now) (word.enquire c.args.terms.now then word.repeated then word.start T200)
    (λ messages p fits. sym (c.may_repeat.ensures.machine p) ∙ c.if-may_repeat.false)
    (c.failed.ensures.does info)
