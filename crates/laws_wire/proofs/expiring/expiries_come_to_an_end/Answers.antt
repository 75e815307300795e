-- Hand-written answers for `expiries_come_to_an_end`.
use Rattle.laws_wire.proofs.OftenMoves.{moves-come-to-an-end}
use Rattle.laws_wire.proofs.OftenRun.{expiries-come-to-an-end}
use Rattle.laws_wire.proofs.expiring.expiries_come_to_an_end.Goals as goal

pub returns-clause-expiries : goal.returns-clause-expiries
returns-clause-expiries c = expiries-come-to-an-end

pub returns-clause-moves : goal.returns-clause-moves
returns-clause-moves c = moves-come-to-an-end
