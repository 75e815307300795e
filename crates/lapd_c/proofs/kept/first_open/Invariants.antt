-- No link so far waits and has room.
use Rattle.model_card.specs.Card.{Card}
use Rattle.std.proofs.Common.{◌-◌}
use Rattle.lapd_card.specs.Kinds.{FrameCardStands}
use Rattle.lapd_c.specs.Reopened.{AreShutBelow}
use Rattle.lapd_c.proofs.kept.first_open.Given as goal

abbrev pub invariant-loop-place : goal.invariant-loop-place
invariant-loop-place l = (m : Card) → FrameCardStands l.card m → AreShutBelow l.from l.line m l.links

abbrev pub decreases-loop-place : goal.decreases-loop-place
decreases-loop-place l = 254 - l.from
