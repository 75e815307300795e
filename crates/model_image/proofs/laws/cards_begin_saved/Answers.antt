-- Hand-written answers for `cards_begin_saved`.
use Rattle.model_image.proofs.Beginning.{cards_begin_saved}
use Rattle.model_image.proofs.laws.cards_begin_saved.Goals as goal

pub returns : goal.returns
returns c = cards_begin_saved
