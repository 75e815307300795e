-- Hand-written answers for `counters_count`.
use Rattle.laws_trace.proofs.CountersCount.{counters-count}
use Rattle.laws_trace.proofs.laws.counters_count.Goals as goal

pub returns : goal.returns
returns c = counters-count
