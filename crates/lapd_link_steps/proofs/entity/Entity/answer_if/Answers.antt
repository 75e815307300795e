-- Hand-written answers for `Entity::answer_if`.
use Rattle.lapd_link_steps.proofs.Vocabulary.{nothing}
use Rattle.lapd_link_steps.proofs.Steps.{bit_yes}
use Rattle.lapd_link_steps.proofs.entity.Entity.answer_if.Goals as goal

pub returns-then-pf-clause-does : goal.returns-then-pf-clause-does
returns-then-pf-clause-does c = λ info. bit_yes _ nothing c.if-pf.true (c.report_receiver_status.ensures.does info)
