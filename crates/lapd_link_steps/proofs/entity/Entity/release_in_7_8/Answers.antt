-- Hand-written answers for `Entity::release_in_7_8`.
use Rattle.lapd_link_steps.proofs.Steps.{◌▹◌, pending_set, repeats_set, state_set}
use Rattle.lapd_link_steps.proofs.entity.Entity.release_in_7_8.Goals as goal

pub returns-clause-does : goal.returns-clause-does
returns-clause-does c = λ info. c.discard.ensures.does _ info ▹ pending_set ▹ c.command.ensures.does info ▹ repeats_set ▹ c.start_timer.ensures.does _ info ▹ state_set
