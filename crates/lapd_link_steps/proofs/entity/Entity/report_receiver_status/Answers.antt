-- Hand-written answers for `Entity::report_receiver_status`.
use Rattle.lapd_link_steps.proofs.Vocabulary.{false, ap, Control, ◌then◌, course_of}
use Rattle.model_link.specs.Words as word
use Rattle.lapd_link_steps.proofs.Steps.{◌▹◌, same_step, pending_set}
use Rattle.lapd_link_steps.proofs.entity.Entity.report_receiver_status.Goals as goal

pub returns-clause-does : goal.returns-clause-does
returns-clause-does c = λ info.
    same_step
    (λ messages p fits.
    ap (λ (ready : Control). (word.send c.args.terms.now (word.response ready) then word.pending_is false) (course_of info c.args.self.now c.args.told.now p))
    (c.rr_or_rnr-ready.ensures p fits.received))
    (c.response.ensures.does info ▹ pending_set)
