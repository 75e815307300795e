-- Hand-written answers for `answers_come_in_time`.
use Rattle.laws_time.proofs.OfCircuit.LongEnough.{answers-come-in-time}
use Rattle.laws_time.proofs.circuit.answers_come_in_time.Goals as goal

pub returns : goal.returns
returns c = answers-come-in-time
