-- Hand-written answers for `frames_are_read`.
use Rattle.laws_trace.proofs.Spelled.{frames-are-read}
use Rattle.laws_trace.proofs.laws.frames_are_read.Goals as goal

pub returns : goal.returns
returns c = λ config events number ranged all within. frames-are-read config events number ranged all within
