-- Hand-written answers for `values_are_in_range`.
use Rattle.laws_trace.proofs.Configurations.{ranges-are-served}
use Rattle.laws_trace.proofs.laws.values_are_in_range.Goals as goal

pub returns : goal.returns
returns c = ranges-are-served
