-- Hand-written answers for `Entity::frame`.
use Rattle.lapd_link_steps.proofs.Vocabulary.{TeiAssigned, AwaitingEstablishment, AwaitingRelease, Established, TimerRecovery, frame_in}
use Rattle.lapd_link_steps.proofs.Steps.{by_state}
use Rattle.lapd_link_steps.proofs.entity.Entity.frame.Goals as goal

pub returns-in-TeiAssigned-clause-does : goal.returns-in-TeiAssigned-clause-does
returns-in-TeiAssigned-clause-does c = λ info len.
    by_state (λ s. frame_in s c.args.terms.now c.args.command info c.args.control) TeiAssigned c.in-TeiAssigned.is (c.frame_in_4.ensures.does info len)

pub returns-in-AwaitingEstablishment-clause-does : goal.returns-in-AwaitingEstablishment-clause-does
returns-in-AwaitingEstablishment-clause-does c = λ info len.
    by_state (λ s. frame_in s c.args.terms.now c.args.command info c.args.control) AwaitingEstablishment c.in-AwaitingEstablishment.is (c.frame_in_5.ensures.does info len)

pub returns-in-AwaitingRelease-clause-does : goal.returns-in-AwaitingRelease-clause-does
returns-in-AwaitingRelease-clause-does c = λ info len.
    by_state (λ s. frame_in s c.args.terms.now c.args.command info c.args.control) AwaitingRelease c.in-AwaitingRelease.is (c.frame_in_6.ensures.does info len)

pub returns-in-Established-clause-does : goal.returns-in-Established-clause-does
returns-in-Established-clause-does c = λ info len.
    by_state (λ s. frame_in s c.args.terms.now c.args.command info c.args.control) Established c.in-Established.is (c.frame_in_7_8.ensures.does info len)

pub returns-in-TimerRecovery-clause-does : goal.returns-in-TimerRecovery-clause-does
returns-in-TimerRecovery-clause-does c = λ info len.
    by_state (λ s. frame_in s c.args.terms.now c.args.command info c.args.control) TimerRecovery c.in-TimerRecovery.is (c.frame_in_8.ensures.does info len)
