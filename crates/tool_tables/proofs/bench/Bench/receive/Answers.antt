-- Hand-written answers for `Bench::receive`.
use Rattle.std.proofs.Common.{[], ◌∙◌}
use Rattle.tool_tables.proofs.bench.Bench.receive.Goals as goal

pub receive-requires : goal.receive-requires
receive-requires c = record { clear = c.nothing-report.ensures; stands = ([], c.requires.0, c.requires.1) }

pub returns : goal.returns
returns c = (_, c.receive.ensures.stands [] c.requires.0 c.requires.1, c.receive.ensures.limits.slots ∙ c.requires.2)
