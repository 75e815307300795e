-- Hand-written answers for `causes_are_told`.
use Rattle.laws_line.proofs.OfCard.Brief.{causes-are-told}
use Rattle.laws_line.proofs.card.laws.causes_are_told.Goals as goal

pub returns : goal.returns
returns c = λ card events s all. causes-are-told card events s all
