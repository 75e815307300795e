-- Hand-written answers for `Entity::frame_in_4`.
use Rattle.lapd_link_steps.proofs.Vocabulary.{ap, ◌∙◌, false, Dm}
use Rattle.model_link.specs.TeiAssigned as row
use Rattle.lapd_link_steps.proofs.Steps.{with_known}
use Rattle.lapd_link_steps.proofs.entity.Entity.frame_in_4.Goals as goal

pub returns-in-Sabme-clause-does : goal.returns-in-Sabme-clause-does
returns-in-Sabme-clause-does c = λ info len. with_known (row.frame_in_4 c.args.terms.now info) c.args.control _ c.in-Sabme.is (c.sabme_in_4.ensures.does info)

pub returns-in-Dm-false-clause-does : goal.returns-in-Dm-false-clause-does
returns-in-Dm-false-clause-does c = λ info len. with_known (row.frame_in_4 c.args.terms.now info) c.args.control (Dm false) (c.in-Dm-false.is ∙ ap Dm c.in-Dm-false.pf-test) (c.dm_in_4.ensures.does info)

pub returns-in-Ui-clause-does : goal.returns-in-Ui-clause-does
returns-in-Ui-clause-does c = λ info len. with_known (row.frame_in_4 c.args.terms.now info) c.args.control _ c.in-Ui.is (c.unit_data.ensures.does info _ len)

pub returns-in-Information-clause-does : goal.returns-in-Information-clause-does
returns-in-Information-clause-does c = λ info len. with_known (row.frame_in_4 c.args.terms.now info) c.args.control _ c.in-Information.is (c.unexpected.ensures.does info _ len)
