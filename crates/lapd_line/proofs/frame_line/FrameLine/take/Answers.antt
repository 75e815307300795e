-- Hand-written answers for `FrameLine::take`.
use Rattle.lapd_line.proofs.NextSteps.{next_taken}
use Rattle.lapd_line.proofs.frame_line.FrameLine.take.Goals as goal

pub returns : goal.returns
returns g c = next_taken c.take.ensures
