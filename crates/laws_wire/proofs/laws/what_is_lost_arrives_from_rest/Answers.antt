-- Hand-written answers for `what_is_lost_arrives_from_rest`.
use Rattle.laws_wire.proofs.StillIsTimely.{still-is-enough}
use Rattle.laws_wire.proofs.laws.what_is_lost_arrives_from_rest.Goals as goal

pub returns : goal.returns
returns c = still-is-enough
