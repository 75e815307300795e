-- Hand-written answers for `Entity::carry_out`.
use Rattle.lapd_link_steps.proofs.Steps.{◌▹◌, owed_set}
use Rattle.lapd_link_steps.proofs.entity.Entity.carry_out.Goals as goal

pub returns-clause-does : goal.returns-clause-does
returns-clause-does c = λ info. c.reset_numbers.ensures.does _ info ▹ owed_set ▹ c.release_in_7_8.ensures.does info
