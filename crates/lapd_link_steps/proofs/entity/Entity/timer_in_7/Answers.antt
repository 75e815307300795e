-- Hand-written answers for `Entity::timer_in_7`.
use Rattle.lapd_link_steps.proofs.Vocabulary.{sym, ◌then◌, T200, TimerRecovery, start}
use Rattle.model_link.specs.Words as word
use Rattle.lapd_link_steps.proofs.Steps.{◌▹◌, repeats_set, state_set, with_known}
use Rattle.lapd_link_steps.proofs.entity.Entity.timer_in_7.Goals as goal

pub returns-clause-does : goal.returns-clause-does
returns-clause-does c = λ info.
    with_known (λ n. word.repeats_are n then word.enquire c.args.terms.now then start T200 then word.enter TimerRecovery) _ _ (sym c.first_repeats-self.ensures)
    (repeats_set ▹ c.enquire.ensures.does info ▹ c.start_timer.ensures.does _ info ▹ state_set)
