-- Hand-written answers for `Entity::dm_in_4`.
use Rattle.lapd_link_steps.proofs.Vocabulary.{leave_unserved}
use Rattle.model_link.specs.TeiAssigned as row
use Rattle.lapd_link_steps.proofs.Steps.{as_profile, as_annex_b}
use Rattle.lapd_link_steps.proofs.entity.Entity.dm_in_4.Goals as goal

pub returns-in-Profile-clause-does : goal.returns-in-Profile-clause-does
returns-in-Profile-clause-does c = λ info. as_profile c.args.terms.now (row.establish_in_4 c.args.terms.now) c.in-Profile.is (c.leave_unserved.ensures.does _ info _)

pub returns-in-AnnexB-clause-does : goal.returns-in-AnnexB-clause-does
returns-in-AnnexB-clause-does c = λ info. as_annex_b c.args.terms.now leave_unserved c.in-AnnexB.is (c.establish_in_4.ensures.does info)
