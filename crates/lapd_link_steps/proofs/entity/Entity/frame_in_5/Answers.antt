-- Hand-written answers for `Entity::frame_in_5`.
use Rattle.lapd_link_steps.proofs.Vocabulary.{ap, ◌∙◌, true, Dm, Ua}
use Rattle.model_link.specs.AwaitingEstablishment as row
use Rattle.lapd_link_steps.proofs.Steps.{with_known}
use Rattle.lapd_link_steps.proofs.entity.Entity.frame_in_5.Goals as goal

pub returns-in-Ua-true-clause-does : goal.returns-in-Ua-true-clause-does
returns-in-Ua-true-clause-does c = λ info len. with_known (row.frame_in_5 c.args.terms.now info) c.args.control (Ua true) (c.in-Ua-true.is ∙ ap Ua c.in-Ua-true.pf-test) (c.answered_in_5.ensures.does info)

pub returns-in-Dm-true-clause-does : goal.returns-in-Dm-true-clause-does
returns-in-Dm-true-clause-does c = λ info len. with_known (row.frame_in_5 c.args.terms.now info) c.args.control (Dm true) (c.in-Dm-true.is ∙ ap Dm c.in-Dm-true.pf-test) (c.declined_in_5.ensures.does info)

pub returns-in-Ui-clause-does : goal.returns-in-Ui-clause-does
returns-in-Ui-clause-does c = λ info len. with_known (row.frame_in_5 c.args.terms.now info) c.args.control _ c.in-Ui.is (c.unit_data.ensures.does info _ len)

pub returns-in-Information-clause-does : goal.returns-in-Information-clause-does
returns-in-Information-clause-does c = λ info len. with_known (row.frame_in_5 c.args.terms.now info) c.args.control _ c.in-Information.is (c.unexpected.ensures.does info _ len)
