-- Hand-written answers for `Entity::offer_numbered`.
use Rattle.lapd_link_steps.proofs.Vocabulary.{sym, ◌∙◌, nothing, depending_on, may_send_information, is_pending, send_acknowledgement}
use Rattle.lapd_link_steps.proofs.Giving.{gives_where}
use Rattle.lapd_link_steps.proofs.entity.Entity.offer_numbered.Goals as goal

pub returns-then-may_send_information-clause-gives : goal.returns-then-may_send_information-clause-gives
returns-then-may_send_information-clause-gives c =
    gives_where (may_send_information c.args.terms.now) (depending_on is_pending send_acknowledgement nothing)
    (λ messages p many none fits. sym (c.may_send_information.ensures.machine messages c.args.told.now p many none fits) ∙ c.if-may_send_information.true)
    (c.send_information.ensures.gives c.args.terms.now c.args.queued)
