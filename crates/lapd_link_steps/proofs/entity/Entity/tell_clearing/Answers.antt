-- Hand-written answers for `Entity::tell_clearing`.
use Rattle.lapd_link_steps.proofs.Vocabulary.{TeiAssigned, AwaitingEstablishment, AwaitingRelease, told_of_clearing}
use Rattle.lapd_link_steps.proofs.Steps.{by_state, by_either, does_nothing}
use Rattle.lapd_link_steps.proofs.entity.Entity.tell_clearing.Goals as goal

pub returns-in-TeiAssigned-clause-does : goal.returns-in-TeiAssigned-clause-does
returns-in-TeiAssigned-clause-does c = λ info. by_state (λ s. told_of_clearing s c.args.terms.now) TeiAssigned c.in-TeiAssigned.is (does_nothing)

pub returns-in-AwaitingRelease-clause-does : goal.returns-in-AwaitingRelease-clause-does
returns-in-AwaitingRelease-clause-does c = λ info. by_state (λ s. told_of_clearing s c.args.terms.now) AwaitingRelease c.in-AwaitingRelease.is (c.note.ensures.does _ _ _)

pub returns-in-AwaitingEstablishment-clause-does : goal.returns-in-AwaitingEstablishment-clause-does
returns-in-AwaitingEstablishment-clause-does c = λ info.
    by_state (λ s. told_of_clearing s c.args.terms.now) AwaitingEstablishment c.in-AwaitingEstablishment.is (c.tell_failure.ensures.does info)

pub returns-in-Established-clause-does : goal.returns-in-Established-clause-does
returns-in-Established-clause-does c = λ info.
    by_either (λ s. told_of_clearing s c.args.terms.now) c.in-Established.is (c.note-in-Established.ensures.does _ _ _)
    (λ is. by_state (λ s. told_of_clearing s c.args.terms.now) _ is (c.note-in-Established.ensures.does _ _ _))
