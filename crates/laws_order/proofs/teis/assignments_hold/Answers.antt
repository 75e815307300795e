-- Hand-written answers for `assignments_hold`.
use Rattle.laws_order.proofs.OfTeis.Law.{assignments-hold}
use Rattle.laws_order.proofs.teis.assignments_hold.Goals as goal

pub returns : goal.returns
returns c = λ b steps can there r is. assignments-hold b steps can there r is
