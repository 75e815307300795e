-- It works.
use Rattle.tool_tables.specs.Works.{Works}
use Rattle.tool_tables.proofs.bench.Bench.lead.Given as goal

abbrev pub invariant-loop-event : goal.invariant-loop-event
invariant-loop-event l = Works l.self
