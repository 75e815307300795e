-- It works.
use Rattle.tool_tables.specs.Works.{Works}
use Rattle.tool_tables.proofs.bench.Bench.send.Given as goal

abbrev pub invariant-loop : goal.invariant-loop
invariant-loop l = Works l.self

abbrev pub invariant-loop-2 : goal.invariant-loop-2
invariant-loop-2 l = Works l.self
