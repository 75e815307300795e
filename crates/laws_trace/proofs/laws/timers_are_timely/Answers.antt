-- Hand-written answer for `timers_are_timely`.
use Rattle.laws_trace.proofs.TimersOrdered.{timers-are-timely}
use Rattle.laws_trace.proofs.laws.timers_are_timely.Goals as goal

pub returns : goal.returns
returns c = λ config events number ranged all within. timers-are-timely config events number ranged all within
