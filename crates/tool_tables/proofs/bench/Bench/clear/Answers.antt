-- Hand-written answers for `Bench::clear`.
use Rattle.std.proofs.Common.{[], ◌∙◌}
use Rattle.tool_tables.proofs.bench.Bench.clear.Goals as goal

pub clear-requires : goal.clear-requires
clear-requires c = record { clear = c.nothing-report.ensures; stands = ([], c.requires.0, c.requires.1) }

pub returns : goal.returns
returns c = (_, c.clear.ensures.stands [] c.requires.0 c.requires.1, c.clear.ensures.limits.slots ∙ c.requires.2)
