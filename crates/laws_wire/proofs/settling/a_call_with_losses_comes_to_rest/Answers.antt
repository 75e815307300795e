-- Hand-written answers for `a_call_with_losses_comes_to_rest`.
use Rattle.laws_wire.proofs.UaComes.{lossy-calls-come-to-rest}
use Rattle.laws_wire.proofs.UaMoves.{lossy-moves-come-to-an-end, lossy-rounds-come-to-rest}
use Rattle.laws_wire.proofs.UaSettles.{lossy-calls-are-answered, lossy-calls-settle}
use Rattle.laws_wire.proofs.settling.a_call_with_losses_comes_to_rest.Goals as goal

pub returns-clause-turns : goal.returns-clause-turns
returns-clause-turns c = lossy-moves-come-to-an-end

pub returns-clause-rounds : goal.returns-clause-rounds
returns-clause-rounds c = lossy-rounds-come-to-rest

pub returns-clause-answered : goal.returns-clause-answered
returns-clause-answered c = lossy-calls-are-answered

pub returns-clause-settles : goal.returns-clause-settles
returns-clause-settles c = lossy-calls-settle

pub returns-clause-rests : goal.returns-clause-rests
returns-clause-rests c = lossy-calls-come-to-rest
