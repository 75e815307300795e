-- Hand-written answers for `frames_go_out`.
use Rattle.laws_trace.proofs.OfOctets.FramesGoOut.{only-frames-are-heard, given-are-octets, go-out-as-they-are}
use Rattle.laws_trace.proofs.octets.frames_go_out.Goals as goal

pub returns-clause-grammar : goal.returns-clause-grammar
returns-clause-grammar c = λ config events number ranged all within. only-frames-are-heard config events number ranged all within

pub returns-clause-octets : goal.returns-clause-octets
returns-clause-octets c = λ config events number ranged all within. given-are-octets config events number ranged all within

pub returns-clause-heard : goal.returns-clause-heard
returns-clause-heard c = λ config events number ranged all within. go-out-as-they-are config events number ranged all within
