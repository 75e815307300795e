-- Hand-written answers for `units_go_out`.
use Rattle.laws_trace.proofs.UnitsGoOut.{units-go-out, all-units-go-out}
use Rattle.laws_trace.proofs.laws.units_go_out.Goals as goal

pub returns-clause-front : goal.returns-clause-front
returns-clause-front c = λ config events number ranged all within. units-go-out config events number ranged all within

pub returns-clause-all : goal.returns-clause-all
returns-clause-all c = λ config events number ranged all within. all-units-go-out config events number ranged all within
