-- Hand-written answers for `calls_are_served`.
use Rattle.lapd_c.proofs.CallsServed.{calls_are_served_by}
use Rattle.lapd_c.proofs.laws.calls_are_served.Goals as goal

pub returns : goal.returns
returns c = calls_are_served_by
