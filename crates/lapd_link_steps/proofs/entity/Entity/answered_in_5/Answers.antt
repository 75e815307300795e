-- Hand-written answers for `Entity::answered_in_5`.
use Rattle.lapd_link_steps.proofs.Vocabulary.{is_owed}
use Rattle.model_link.specs.AwaitingEstablishment as row
use Rattle.lapd_link_steps.proofs.Steps.{where_yes, where_no}
use Rattle.lapd_link_steps.proofs.entity.Entity.answered_in_5.Goals as goal

pub returns-then-self-clause-does : goal.returns-then-self-clause-does
returns-then-self-clause-does c = λ info. where_yes is_owed (row.accepted_in_5 c.args.terms.now) (λ messages p fits. c.if-self.true) (c.carry_out.ensures.does info)

pub returns-else-self-clause-does : goal.returns-else-self-clause-does
returns-else-self-clause-does c = λ info. where_no is_owed (row.carry_out c.args.terms.now) (λ messages p fits. c.if-self.false) (c.accepted_in_5.ensures.does info)
