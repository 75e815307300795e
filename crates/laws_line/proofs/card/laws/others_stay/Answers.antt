-- Hand-written answers for `others_stay`.
use Rattle.laws_line.proofs.OfCard.Brief.{others-stay}
use Rattle.laws_line.proofs.card.laws.others_stay.Goals as goal

pub returns : goal.returns
returns c = λ card events s all. others-stay card events s all
