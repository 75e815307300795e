-- Hand-written answers for `what_is_lost_arrives`.
use Rattle.laws_wire.proofs.TimelyRun.{what-is-lost-arrives}
use Rattle.laws_wire.proofs.laws.what_is_lost_arrives.Goals as goal

pub returns : goal.returns
returns c = what-is-lost-arrives
