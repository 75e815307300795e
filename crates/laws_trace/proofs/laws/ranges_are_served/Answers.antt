-- Hand-written answers for `ranges_are_served`.
use Rattle.laws_trace.proofs.Configurations.{first-faults-are-named}
use Rattle.laws_trace.proofs.laws.ranges_are_served.Goals as goal

pub returns : goal.returns
returns c = first-faults-are-named
