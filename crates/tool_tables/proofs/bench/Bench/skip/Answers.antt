-- Hand-written answers for `Bench::skip`.
use Rattle.std.proofs.Common.{[]}
use Rattle.tool_tables.proofs.bench.Bench.skip.Goals as goal

pub loop-preserved : goal.loop-preserved
loop-preserved c = (_, c.offer.ensures.stands c.loop.self.shelf [] c.loop.invariant.0 c.loop.invariant.1, c.loop.invariant.2)
