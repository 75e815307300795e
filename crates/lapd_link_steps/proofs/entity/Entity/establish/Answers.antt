-- Hand-written answers for `Entity::establish`.
use Rattle.lapd_link_steps.proofs.Steps.{◌▹◌, asked_set, repeats_set, state_set}
use Rattle.lapd_link_steps.proofs.entity.Entity.establish.Goals as goal

pub returns-clause-does : goal.returns-clause-does
returns-clause-does c = λ info.
    c.clear_flags.ensures _ _ _
    ▹ c.command.ensures.does info
    ▹ repeats_set
    ▹ c.start_timer.ensures.does _ info
    ▹ asked_set
    ▹ state_set
