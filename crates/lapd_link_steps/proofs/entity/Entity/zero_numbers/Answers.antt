-- Hand-written answers for `Entity::zero_numbers`.
use Rattle.model_link.specs.Counts.{with_establishment}
use Rattle.lapd_link_steps.proofs.Steps.{◌▹◌, counted}
use Rattle.lapd_link_steps.proofs.entity.Entity.zero_numbers.Goals as goal

pub returns-clause-does : goal.returns-clause-does
returns-clause-does c = λ terms info. c.reset_numbers.ensures.does _ info ▹ counted with_establishment c.establishment.ensures
