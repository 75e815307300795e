-- Hand-written answers for `Entity::set_busy_in_7_8`.
use Rattle.lapd_link_steps.proofs.Vocabulary.{is_own_busy, nothing}
use Rattle.lapd_link_steps.proofs.Steps.{◌▹◌, where_no, own_busy_set}
use Rattle.lapd_link_steps.proofs.entity.Entity.set_busy_in_7_8.Goals as goal

pub returns-clause-does : goal.returns-clause-does
returns-clause-does c = λ info. where_no is_own_busy nothing (λ messages p fits. c.if-self.false) (own_busy_set ▹ c.report_receiver_status.ensures.does info)
