-- It works.
use Rattle.tool_tables.specs.Works.{Works}
use Rattle.tool_tables.proofs.bench.Bench.skip.Given as goal

abbrev pub invariant-loop : goal.invariant-loop
invariant-loop l = Works l.self
