-- Hand-written answers for `cards_go_on`.
use Rattle.model_image.proofs.GoOnCards.{cards_go_on}
use Rattle.model_image.proofs.laws.cards_go_on.Goals as goal

pub returns : goal.returns
returns c = λ card other events sound also same at. cards_go_on card other events sound also same at
