-- Hand-written answers for `an_answer_tells_what_came`.
use Rattle.laws_time.proofs.OfCircuit.CaughtAll.{all-places-are-free}
use Rattle.laws_time.proofs.OfCircuit.CaughtUp.{an-enquiry-meets-it, an-enquiry-catches-up, answers-tell-what-came}
use Rattle.laws_time.proofs.circuit.an_answer_tells_what_came.Goals as goal

pub returns-clause-came : goal.returns-clause-came
returns-clause-came c = answers-tell-what-came

pub returns-clause-in_time : goal.returns-clause-in_time
returns-clause-in_time c = an-enquiry-catches-up

pub returns-clause-met : goal.returns-clause-met
returns-clause-met c = an-enquiry-meets-it

pub returns-clause-all : goal.returns-clause-all
returns-clause-all c = all-places-are-free
