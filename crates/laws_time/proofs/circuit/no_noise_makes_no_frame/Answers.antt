-- Hand-written answers for `no_noise_makes_no_frame`.
use Rattle.laws_time.proofs.OfCircuit.AgainLaw.{no-noise-is-clear}
use Rattle.laws_time.proofs.OfCircuit.Answered.{an-enquiry-is-met}
use Rattle.laws_time.proofs.circuit.no_noise_makes_no_frame.Goals as goal

pub returns-clause-clear : goal.returns-clause-clear
returns-clause-clear c = no-noise-is-clear

pub returns-clause-met : goal.returns-clause-met
returns-clause-met c = an-enquiry-is-met
