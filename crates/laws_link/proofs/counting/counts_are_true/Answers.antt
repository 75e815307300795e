-- Hand-written answers for `counts_are_true`.
use Rattle.laws_link.proofs.TallyKept.{counts-are}
use Rattle.laws_link.proofs.counting.counts_are_true.Goals as goal

pub returns : goal.returns
returns c = record { counted = counts-are }
