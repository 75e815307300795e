-- Hand-written answers for `BareReport::malformed`.
use Rattle.lapd_link_steps.proofs.Vocabulary.{leave_unserved}
use Rattle.model_link.specs.Words as word
use Rattle.lapd_link_steps.proofs.Steps.{as_profile, as_annex_b}
use Rattle.lapd_link_steps.proofs.report.BareReport.malformed.Goals as goal

pub returns-in-Profile-clause-does : goal.returns-in-Profile-clause-does
returns-in-Profile-clause-does c = λ terms info e. as_profile c.args.terms.now (word.error c.args.terms.now c.args.code) c.in-Profile.is (c.leave_unserved.ensures.does terms info e)

pub returns-in-AnnexB-clause-does : goal.returns-in-AnnexB-clause-does
returns-in-AnnexB-clause-does c = λ terms info e. as_annex_b c.args.terms.now leave_unserved c.in-AnnexB.is (c.error.ensures.does terms info e)
