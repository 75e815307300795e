-- Hand-written answers for `Bench::expire`.
use Rattle.std.proofs.Common.{[], ◌∙◌}
use Rattle.tool_tables.proofs.bench.Bench.expire.Goals as goal

pub expire-requires : goal.expire-requires
expire-requires c = record { clear = c.nothing-report.ensures; stands = ([], c.requires.0, c.requires.1) }

pub returns : goal.returns
returns c = (_, c.expire.ensures.stands [] c.requires.0 c.requires.1, c.expire.ensures.limits.slots ∙ c.requires.2)
