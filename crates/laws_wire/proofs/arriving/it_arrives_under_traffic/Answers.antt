-- Hand-written answers for `it_arrives_under_traffic`.
use Rattle.laws_wire.proofs.UnderwayRounds.{arrives-in-rounds, arrives-in-turns}
use Rattle.laws_wire.proofs.UnderwayRun.{arrives-under-traffic}
use Rattle.laws_wire.proofs.arriving.it_arrives_under_traffic.Goals as goal

pub returns-clause-still : goal.returns-clause-still
returns-clause-still c = arrives-under-traffic

pub returns-clause-rounds : goal.returns-clause-rounds
returns-clause-rounds c = arrives-in-rounds

pub returns-clause-turns : goal.returns-clause-turns
returns-clause-turns c = arrives-in-turns
