-- Hand-written answers for `turns_come_to_an_end`.
use Rattle.laws_wire.proofs.RestedRun.{moves-come-to-an-end}
use Rattle.laws_wire.proofs.resting.turns_come_to_an_end.Goals as goal

pub returns : goal.returns
returns c = moves-come-to-an-end
