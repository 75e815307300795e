-- Hand-written answers for `frames_are_octets`.
use Rattle.laws_trace.proofs.OctetsBegin.{frames-are-octets}
use Rattle.laws_trace.proofs.laws.frames_are_octets.Goals as goal

pub returns : goal.returns
returns c = λ config events number ranged all within. frames-are-octets config events number ranged all within
