-- Hand-written answers for `Entity::ask_establishment`.
use Rattle.lapd_link_steps.proofs.Vocabulary.{TeiAssigned, AwaitingEstablishment, establish_in}
use Rattle.lapd_link_steps.proofs.Steps.{by_state, by_either, does_nothing}
use Rattle.lapd_link_steps.proofs.entity.Entity.ask_establishment.Goals as goal

pub returns-in-TeiAssigned-clause-does : goal.returns-in-TeiAssigned-clause-does
returns-in-TeiAssigned-clause-does c = λ info. by_state (λ s. establish_in s c.args.terms.now) TeiAssigned c.in-TeiAssigned.is (c.establish_in_4.ensures.does info)

pub returns-in-AwaitingEstablishment-clause-does : goal.returns-in-AwaitingEstablishment-clause-does
returns-in-AwaitingEstablishment-clause-does c = λ info.
    by_state (λ s. establish_in s c.args.terms.now) AwaitingEstablishment c.in-AwaitingEstablishment.is (c.establish_in_5.ensures.does _ info)

pub returns-in-AwaitingRelease-clause-does : goal.returns-in-AwaitingRelease-clause-does
returns-in-AwaitingRelease-clause-does c = λ info.
    by_either (λ s. establish_in s c.args.terms.now) c.in-AwaitingRelease.is does_nothing
    (λ up. by_either (λ s. establish_in s c.args.terms.now) up does_nothing (λ is. by_state (λ s. establish_in s c.args.terms.now) _ is does_nothing))
