-- Hand-written answers for `Entity::frame_in_6`.
use Rattle.model_link.specs.AwaitingRelease as row
use Rattle.lapd_link_steps.proofs.Steps.{with_known}
use Rattle.lapd_link_steps.proofs.entity.Entity.frame_in_6.Goals as goal

pub returns-in-Ui-clause-does : goal.returns-in-Ui-clause-does
returns-in-Ui-clause-does c = λ info len. with_known (row.frame_in_6 c.args.terms.now info) c.args.control _ c.in-Ui.is (c.unit_data.ensures.does info _ len)

pub returns-in-Information-clause-does : goal.returns-in-Information-clause-does
returns-in-Information-clause-does c = λ info len. with_known (row.frame_in_6 c.args.terms.now info) c.args.control _ c.in-Information.is (c.unexpected.ensures.does info _ len)
