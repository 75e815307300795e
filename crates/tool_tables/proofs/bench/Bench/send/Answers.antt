-- Hand-written answers for `Bench::send`.
use Rattle.std.proofs.Common.{[]}
use Rattle.tool_tables.proofs.bench.Bench.send.Goals as goal

pub loop-2-preserved : goal.loop-2-preserved
loop-2-preserved c = (_, c.offer-in-loop-2.ensures.stands c.loop-2.self.shelf [] c.loop-2.invariant.0 c.loop-2.invariant.1, c.loop-2.invariant.2)
