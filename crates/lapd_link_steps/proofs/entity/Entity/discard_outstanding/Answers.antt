-- Hand-written answers for `Entity::discard_outstanding`.
use Rattle.lapd_link_steps.proofs.Vocabulary.{sym, ◌∙◌, true≢false, has_outstanding, nothing}
use Rattle.lapd_link_steps.proofs.Tests.{not_same}
use Rattle.lapd_link_steps.proofs.Steps.{◌▹◌, where_yes}
use Rattle.lapd_link_steps.proofs.entity.Entity.discard_outstanding.Goals as goal

pub returns-clause-does : goal.returns-clause-does
returns-clause-does c = λ info.
    where_yes has_outstanding nothing
    (λ messages p fits. not_same p.s p.a (λ same. absurd (true≢false (sym ((c.is_settled.ensures.plain p.a p.s fits.window).1 (sym same)) ∙ c.if-is_settled.false))))
    (c.discard.ensures.does _ info ▹ c.note.ensures.does _ _ _)
