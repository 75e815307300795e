-- Hand-written answers for `Entity::dm_in_7_8`.
use Rattle.lapd_link_steps.proofs.Vocabulary.{true, false, particulars}
use Rattle.lapd_link_steps.proofs.Steps.{with_known}
use Rattle.lapd_link_steps.proofs.entity.Entity.dm_in_7_8.Goals as goal

pub returns-then-recovering-clause-does : goal.returns-then-recovering-clause-does
returns-then-recovering-clause-does c = λ info. with_known (λ b. (particulars b c.args.terms.now).by_dm) c.args.recovering true c.if-recovering.true (c.failed.ensures.does info)

pub returns-clause-does : goal.returns-clause-does
returns-clause-does c = λ info. with_known (λ b. (particulars b c.args.terms.now).by_dm) c.args.recovering false c.if-recovering.false (c.error.ensures.does _ info _)
