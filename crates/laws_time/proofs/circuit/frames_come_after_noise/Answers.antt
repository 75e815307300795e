-- Hand-written answers for `frames_come_after_noise`.
use Rattle.laws_time.proofs.OfCircuit.AgainLaw.{noise-makes-no-frame-after, frames-come-after-noise}
use Rattle.laws_time.proofs.circuit.frames_come_after_noise.Goals as goal

pub returns-clause-come : goal.returns-clause-come
returns-clause-come c = frames-come-after-noise

pub returns-clause-clear : goal.returns-clause-clear
returns-clause-clear c = noise-makes-no-frame-after
