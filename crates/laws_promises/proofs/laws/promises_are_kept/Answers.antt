-- The law is that of Kept.
use Rattle.laws_promises.proofs.Kept.{promises-kept}
use Rattle.laws_promises.proofs.laws.promises_are_kept.Goals as goal

pub returns : goal.returns
returns c = promises-kept
