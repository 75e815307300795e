-- Hand-written answers for `Entity::declined_in_5`.
use Rattle.lapd_link_steps.proofs.Steps.{◌▹◌, state_set}
use Rattle.lapd_link_steps.proofs.entity.Entity.declined_in_5.Goals as goal

pub returns-clause-does : goal.returns-clause-does
returns-clause-does c = λ info. c.discard.ensures.does _ info ▹ c.tell_failure.ensures.does info ▹ c.no_timer.ensures.does _ info ▹ state_set
