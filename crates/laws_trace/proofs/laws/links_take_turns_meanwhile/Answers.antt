-- Hand-written answers for `links_take_turns_meanwhile`.
use Rattle.laws_trace.proofs.TurnsMeanwhile.{links-take-turns-meanwhile}
use Rattle.laws_trace.proofs.laws.links_take_turns_meanwhile.Goals as goal

pub returns : goal.returns
returns c = λ config events number ranged all within. links-take-turns-meanwhile config events number ranged all within
