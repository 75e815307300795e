-- Hand-written answers for `all_frames_go_out`.
use Rattle.laws_trace.proofs.OfOctets.FramesGoOut.{all-frames-go-out}
use Rattle.laws_trace.proofs.octets.all_frames_go_out.Goals as goal

pub returns : goal.returns
returns c = λ config events number ranged all within. all-frames-go-out config events number ranged all within
