-- Hand-written answers for `Entity::failed`.
use Rattle.lapd_link_steps.proofs.Steps.{◌▹◌}
use Rattle.lapd_link_steps.proofs.entity.Entity.failed.Goals as goal

pub returns-clause-does : goal.returns-clause-does
returns-clause-does c = λ info. c.error.ensures.does _ _ _ ▹ c.establish.ensures.does info
