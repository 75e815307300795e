-- Hand-written answers for `commands_are_answered`.
use Rattle.laws_time.proofs.OfCircuit.Answered.{an-enquiry-is-answered, commands-are-answered, one-enquiry-is-enough}
use Rattle.laws_time.proofs.circuit.commands_are_answered.Goals as goal

pub returns-clause-enquiries : goal.returns-clause-enquiries
returns-clause-enquiries c = an-enquiry-is-answered

pub returns-clause-once : goal.returns-clause-once
returns-clause-once c = one-enquiry-is-enough

pub returns-clause-others : goal.returns-clause-others
returns-clause-others c = commands-are-answered
