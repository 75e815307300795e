-- Hand-written answers for `Entity::out_of_sequence`.
use Rattle.lapd_link_steps.proofs.Vocabulary.{true, is_rejecting, ◌then◌}
use Rattle.model_link.specs.Words as word
use Rattle.model_link.specs.MultipleFrame as row
use Rattle.lapd_link_steps.proofs.Steps.{◌▹◌, where_yes, where_no, rejecting_set}
use Rattle.lapd_link_steps.proofs.entity.Entity.out_of_sequence.Goals as goal

pub returns-then-self-clause-does : goal.returns-then-self-clause-does
returns-then-self-clause-does c = λ info. where_yes is_rejecting (word.rejecting_is true then word.reject c.args.terms.now c.args.pf) (λ messages p fits. c.if-self.true) (c.answer_if.ensures.does info)

pub returns-clause-does : goal.returns-clause-does
returns-clause-does c = λ info. where_no is_rejecting (row.dropped c.args.terms.now c.args.pf) (λ messages p fits. c.if-self.false) (rejecting_set ▹ c.reject.ensures.does info)
