-- Hand-written answers for `Entity::expire_running`.
use Rattle.lapd_link_steps.proofs.Vocabulary.{AwaitingEstablishment, AwaitingRelease, Established, TimerRecovery, T200, expired_in}
use Rattle.model_link.specs.Counts.{with_expiry}
use Rattle.lapd_link_steps.proofs.Steps.{◌▹◌, counted, by_state, with_known}
use Rattle.lapd_link_steps.proofs.entity.Entity.expire_running.Goals as goal

pub returns-in-AwaitingEstablishment-T200-clause-does : goal.returns-in-AwaitingEstablishment-T200-clause-does
returns-in-AwaitingEstablishment-T200-clause-does c = λ info.
    counted (with_expiry c.args.timer) c.expired.ensures
    ▹ by_state (λ s. expired_in s c.args.timer c.args.terms.now) AwaitingEstablishment c.in-AwaitingEstablishment-T200.is-0
    (with_known (λ timer. expired_in AwaitingEstablishment timer c.args.terms.now) c.args.timer T200 c.in-AwaitingEstablishment-T200.is-1 (c.t200_in_5.ensures.does info))

pub returns-in-AwaitingRelease-T200-clause-does : goal.returns-in-AwaitingRelease-T200-clause-does
returns-in-AwaitingRelease-T200-clause-does c = λ info.
    counted (with_expiry c.args.timer) c.expired.ensures
    ▹ by_state (λ s. expired_in s c.args.timer c.args.terms.now) AwaitingRelease c.in-AwaitingRelease-T200.is-0
    (with_known (λ timer. expired_in AwaitingRelease timer c.args.terms.now) c.args.timer T200 c.in-AwaitingRelease-T200.is-1 (c.t200_in_6.ensures.does info))

pub returns-in-Established-default-clause-does : goal.returns-in-Established-default-clause-does
returns-in-Established-default-clause-does c = λ info.
    counted (with_expiry c.args.timer) c.expired.ensures
    ▹ by_state (λ s. expired_in s c.args.timer c.args.terms.now) Established c.in-Established-default.is-0
    (c.timer_in_7.ensures.does info)

pub returns-in-TimerRecovery-T200-clause-does : goal.returns-in-TimerRecovery-T200-clause-does
returns-in-TimerRecovery-T200-clause-does c = λ info.
    counted (with_expiry c.args.timer) c.expired.ensures
    ▹ by_state (λ s. expired_in s c.args.timer c.args.terms.now) TimerRecovery c.in-TimerRecovery-T200.is-0
    (with_known (λ timer. expired_in TimerRecovery timer c.args.terms.now) c.args.timer T200 c.in-TimerRecovery-T200.is-1 (c.t200_in_8.ensures.does info))
