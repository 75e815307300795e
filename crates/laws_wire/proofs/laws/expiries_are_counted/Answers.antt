-- Hand-written answers for `expiries_are_counted`.
use Rattle.laws_wire.proofs.Counting.{expiries-are-counted, lossy-expiries-are-counted}
use Rattle.laws_wire.proofs.laws.expiries_are_counted.Goals as goal

pub returns-clause-timely : goal.returns-clause-timely
returns-clause-timely c = expiries-are-counted

pub returns-clause-lossy : goal.returns-clause-lossy
returns-clause-lossy c = lossy-expiries-are-counted
