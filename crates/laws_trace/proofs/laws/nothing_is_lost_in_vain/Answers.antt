-- Hand-written answers for `nothing_is_lost_in_vain`.
use Rattle.laws_trace.proofs.NoLossInVain.{no-loss-in-vain}
use Rattle.laws_trace.proofs.laws.nothing_is_lost_in_vain.Goals as goal

pub returns : goal.returns
returns c = λ config events number ranged all within. no-loss-in-vain config events number ranged all within
