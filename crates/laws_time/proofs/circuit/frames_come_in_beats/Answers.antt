-- Hand-written answers for `frames_come_in_beats`.
use Rattle.laws_time.proofs.OfCircuit.InBeatsFrames.{frames-come-in-beats}
use Rattle.laws_time.proofs.circuit.frames_come_in_beats.Goals as goal

pub returns : goal.returns
returns c = frames-come-in-beats
