-- Hand-written answers for `Entity::malformed`.
use Rattle.lapd_link_steps.proofs.Vocabulary.{malformed_in}
use Rattle.lapd_link_steps.proofs.Steps.{by_state, by_either}
use Rattle.lapd_link_steps.proofs.entity.Entity.malformed.Goals as goal

pub returns-in-TeiAssigned-clause-does : goal.returns-in-TeiAssigned-clause-does
returns-in-TeiAssigned-clause-does c = λ info.
    by_either (λ s. malformed_in s c.args.terms.now c.args.code) c.in-TeiAssigned.is (c.malformed.ensures.does _ _ _)
    (λ down. by_either (λ s. malformed_in s c.args.terms.now c.args.code) down (c.malformed.ensures.does _ _ _) (λ is. by_state (λ s. malformed_in s c.args.terms.now c.args.code) _ is (c.malformed.ensures.does _ _ _)))

pub returns-in-Established-clause-does : goal.returns-in-Established-clause-does
returns-in-Established-clause-does c = λ info. by_either (λ s. malformed_in s c.args.terms.now c.args.code) c.in-Established.is (c.failed.ensures.does info) (λ is. by_state (λ s. malformed_in s c.args.terms.now c.args.code) _ is (c.failed.ensures.does info))
