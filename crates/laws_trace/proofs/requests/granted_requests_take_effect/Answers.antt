-- Hand-written answers for `granted_requests_take_effect`.
use Rattle.laws_trace.proofs.RequestsTakeEffect.{requests-take-effect}
use Rattle.laws_trace.proofs.requests.granted_requests_take_effect.Goals as goal

pub returns : goal.returns
returns c = λ config events number ranged all within. requests-take-effect config events number ranged all within
