-- Hand-written answers for `one_event`.
use Rattle.laws_line.proofs.Parts.{one-event}
use Rattle.laws_line.proofs.laws.one_event.Goals as goal

pub returns : goal.returns
returns c = λ c e l s. one-event c e l s
