-- Hand-written answers for `Entity::release`.
use Rattle.lapd_link_steps.proofs.Vocabulary.{TeiAssigned, AwaitingEstablishment, AwaitingRelease, release_in}
use Rattle.lapd_link_steps.proofs.Steps.{by_state, by_either, does_nothing}
use Rattle.lapd_link_steps.proofs.entity.Entity.release.Goals as goal

pub returns-in-TeiAssigned-clause-does : goal.returns-in-TeiAssigned-clause-does
returns-in-TeiAssigned-clause-does c = λ info. by_state (λ s. release_in s c.args.terms.now) TeiAssigned c.in-TeiAssigned.is (c.note.ensures.does _ _ _)

pub returns-in-AwaitingEstablishment-clause-does : goal.returns-in-AwaitingEstablishment-clause-does
returns-in-AwaitingEstablishment-clause-does c = λ info.
    by_state (λ s. release_in s c.args.terms.now) AwaitingEstablishment c.in-AwaitingEstablishment.is (c.release_in_5.ensures.does _ info)

pub returns-in-AwaitingRelease-clause-does : goal.returns-in-AwaitingRelease-clause-does
returns-in-AwaitingRelease-clause-does c = λ info. by_state (λ s. release_in s c.args.terms.now) AwaitingRelease c.in-AwaitingRelease.is does_nothing

pub returns-in-Established-clause-does : goal.returns-in-Established-clause-does
returns-in-Established-clause-does c = λ info. by_either (λ s. release_in s c.args.terms.now) c.in-Established.is (c.release_in_7_8.ensures.does info) (λ is. by_state (λ s. release_in s c.args.terms.now) _ is (c.release_in_7_8.ensures.does info))
