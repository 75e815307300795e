-- Hand-written answers for `rounds_come_to_rest`.
use Rattle.laws_wire.proofs.RestedRounds.{rounds-come-to-rest}
use Rattle.laws_wire.proofs.RestedTimely.{timely-rounds-come-to-rest}
use Rattle.laws_wire.proofs.resting.rounds_come_to_rest.Goals as goal

pub returns-clause-rounds : goal.returns-clause-rounds
returns-clause-rounds c = rounds-come-to-rest

pub returns-clause-timely : goal.returns-clause-timely
returns-clause-timely c = timely-rounds-come-to-rest
