-- Hand-written answers for `Entity::tell_establishment`.
use Rattle.lapd_link_steps.proofs.Vocabulary.{is_asked, renewed}
use Rattle.model_link.specs.Words as word
use Rattle.lapd_link_steps.proofs.Steps.{where_yes, where_no}
use Rattle.lapd_link_steps.proofs.entity.Entity.tell_establishment.Goals as goal

pub returns-then-self-clause-does : goal.returns-then-self-clause-does
returns-then-self-clause-does c = λ info. where_yes is_asked (renewed c.args.terms.now) (λ messages p fits. c.if-self.true) (c.note.ensures.does _ _ _)

pub returns-else-self-clause-does : goal.returns-else-self-clause-does
returns-else-self-clause-does c = λ info. where_no is_asked (word.establish_confirm c.args.terms.now) (λ messages p fits. c.if-self.false) (c.discard_outstanding.ensures.does info)
