-- Hand-written answers for `calls_bear_noise`.
use Rattle.laws_time.proofs.OfCircuit.ArrivTold.{calls-bear-noise}
use Rattle.laws_time.proofs.circuit.calls_bear_noise.Goals as goal

pub returns : goal.returns
returns c = calls-bear-noise
