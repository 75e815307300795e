-- Hand-written answers for `Entity::disc_in_7_8`.
use Rattle.lapd_link_steps.proofs.Steps.{◌▹◌, pending_set, state_set}
use Rattle.lapd_link_steps.proofs.entity.Entity.disc_in_7_8.Goals as goal

pub returns-clause-does : goal.returns-clause-does
returns-clause-does c = λ info. c.discard.ensures.does _ info ▹ pending_set ▹ c.response.ensures.does info ▹ c.note.ensures.does _ _ _ ▹ c.no_timer.ensures.does _ info ▹ state_set
