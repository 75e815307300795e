-- Hand-written answers for `link_counters_count`.
use Rattle.laws_trace.proofs.LinkCounters.{link-counters-count}
use Rattle.laws_trace.proofs.laws.link_counters_count.Goals as goal

pub returns : goal.returns
returns c = λ config events number ranged all within. link-counters-count config events number ranged all within
