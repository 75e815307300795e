-- Hand-written answers for `losses_are_told`.
use Rattle.laws_link.proofs.GivingUp.{own-gone}
use Rattle.laws_link.proofs.Keeping.{event-done}
use Rattle.laws_link.proofs.sending.losses_are_told.Goals as goal

pub returns : goal.returns
returns c = record { kept = λ t e l s. (event-done t l s e).comes.kept; told = λ t e l s. own-gone t l s e }
