-- Hand-written answers for `releases_end`.
use Rattle.laws_order.proofs.Released.{releases-end, released-is-over}
use Rattle.laws_order.proofs.laws.releases_end.Goals as goal

pub returns-clause-released : goal.returns-clause-released
returns-clause-released c = releases-end

pub returns-clause-over : goal.returns-clause-over
returns-clause-over c = released-is-over
