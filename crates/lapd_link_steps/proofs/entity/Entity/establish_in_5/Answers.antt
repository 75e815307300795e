-- Hand-written answers for `Entity::establish_in_5`.
use Rattle.lapd_link_steps.proofs.Steps.{◌▹◌, asked_set, owed_set}
use Rattle.lapd_link_steps.proofs.entity.Entity.establish_in_5.Goals as goal

pub returns-clause-does : goal.returns-clause-does
returns-clause-does c = λ terms info. c.discard.ensures.does _ info ▹ asked_set ▹ owed_set
