-- Hand-written answers for `units_are_heard`.
use Rattle.laws_trace.proofs.OfOctets.UnitsAreHeard.{units-are-heard, all-units-are-heard}
use Rattle.laws_trace.proofs.octets.units_are_heard.Goals as goal

pub returns-clause-front : goal.returns-clause-front
returns-clause-front c = λ config events number ranged all within. units-are-heard config events number ranged all within

pub returns-clause-all : goal.returns-clause-all
returns-clause-all c = λ config events number ranged all within. all-units-are-heard config events number ranged all within
