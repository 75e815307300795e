-- Hand-written answers for `requests_take_effect`.
use Rattle.laws_link.proofs.Effects.{takes-effect}
use Rattle.laws_link.proofs.sending.requests_take_effect.Goals as goal

pub returns : goal.returns
returns c = record { takes_effect = λ t request full l s granted. takes-effect t l s request full granted }
