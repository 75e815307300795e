-- The law is that of Drops.
use Rattle.model_card.proofs.Drops.{drops_change_nothing}
use Rattle.model_card.proofs.laws.drops_change_nothing.Goals as goal

pub returns : goal.returns
returns c = drops_change_nothing
