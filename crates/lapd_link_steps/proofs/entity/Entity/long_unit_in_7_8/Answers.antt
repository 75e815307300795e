-- Hand-written answers for `Entity::long_unit_in_7_8`.
use Rattle.lapd_link_steps.proofs.Vocabulary.{failed, leave_unserved}
use Rattle.lapd_frame.specs.declared.notes.ErrorCode.TheVariants as code
use Rattle.lapd_link_steps.proofs.Steps.{as_profile, as_annex_b}
use Rattle.lapd_link_steps.proofs.entity.Entity.long_unit_in_7_8.Goals as goal

pub returns-in-Profile-clause-does : goal.returns-in-Profile-clause-does
returns-in-Profile-clause-does c = λ info. as_profile c.args.terms.now (failed c.args.terms.now code.O) c.in-Profile.is (c.leave_unserved.ensures.does _ info _)

pub returns-in-AnnexB-clause-does : goal.returns-in-AnnexB-clause-does
returns-in-AnnexB-clause-does c = λ info. as_annex_b c.args.terms.now leave_unserved c.in-AnnexB.is (c.failed.ensures.does info)
