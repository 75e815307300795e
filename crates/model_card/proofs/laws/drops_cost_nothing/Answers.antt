-- The law is that of Drops.
use Rattle.model_card.proofs.Drops.{drops_cost_nothing}
use Rattle.model_card.proofs.laws.drops_cost_nothing.Goals as goal

pub returns : goal.returns
returns c = drops_cost_nothing
