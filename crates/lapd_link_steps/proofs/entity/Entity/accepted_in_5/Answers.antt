-- Hand-written answers for `Entity::accepted_in_5`.
use Rattle.lapd_link_steps.proofs.Steps.{◌▹◌, state_set}
use Rattle.lapd_link_steps.proofs.entity.Entity.accepted_in_5.Goals as goal

pub returns-clause-does : goal.returns-clause-does
returns-clause-does c = λ info. c.tell_establishment.ensures.does info ▹ c.zero_numbers.ensures.does _ info ▹ c.start_timer.ensures.does _ info ▹ state_set
