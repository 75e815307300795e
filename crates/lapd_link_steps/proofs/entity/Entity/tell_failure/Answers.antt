-- Hand-written answers for `Entity::tell_failure`.
use Rattle.lapd_link_steps.proofs.Vocabulary.{false, is_owed, ◌then◌}
use Rattle.model_link.specs.Words as word
use Rattle.lapd_link_steps.proofs.Steps.{◌▹◌, owed_set, where_yes, where_no}
use Rattle.lapd_link_steps.proofs.entity.Entity.tell_failure.Goals as goal

pub returns-then-self-clause-does : goal.returns-then-self-clause-does
returns-then-self-clause-does c = λ info. where_yes is_owed (word.release_indication c.args.terms.now) (λ messages p fits. c.if-self.true) (owed_set ▹ c.note.ensures.does _ _ _)

pub returns-else-self-clause-does : goal.returns-else-self-clause-does
returns-else-self-clause-does c = λ info. where_no is_owed (word.owed_is false then word.release_confirm c.args.terms.now) (λ messages p fits. c.if-self.false) (c.note-else-self.ensures.does _ _ _)
