-- A card has a configuration in range, since it is reached.
use Rattle.std.proofs.Common.{subst}
use Rattle.model_line.specs.Sound.{IsInRange}
use Rattle.lapd_card.proofs.frame_card.FrameCard.config.Goals as goal

pub returns-clause-range : goal.returns-clause-range
returns-clause-range g c = subst IsInRange c.self.invariant.1.config c.self.invariant.1.reached.config
