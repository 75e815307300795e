-- Hand-written answers for `Entity::sabme_in_4`.
use Rattle.lapd_link_steps.proofs.Steps.{◌▹◌, state_set}
use Rattle.lapd_link_steps.proofs.entity.Entity.sabme_in_4.Goals as goal

pub returns-clause-does : goal.returns-clause-does
returns-clause-does c = λ info. c.response.ensures.does info ▹ c.clear_flags.ensures _ _ _ ▹ c.zero_numbers.ensures.does _ info ▹ c.start_timer.ensures.does _ info ▹ c.note.ensures.does _ _ _ ▹ state_set
