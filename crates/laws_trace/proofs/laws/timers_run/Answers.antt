-- Hand-written answer for `timers_run`.
use Rattle.laws_trace.proofs.ObservedLaws.{timers-run-so}
use Rattle.laws_trace.proofs.laws.timers_run.Goals as goal

pub returns : goal.returns
returns c = λ config events number ranged all within. timers-run-so config events number ranged all within
