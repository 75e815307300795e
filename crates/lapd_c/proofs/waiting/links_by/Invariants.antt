-- The links so far are marked as their bits say.
use Rattle.lapd_card.specs.Kinds.{FrameCardStands}
use Rattle.model_card.specs.Card.{line_at, Card}
use Rattle.lapd_c.proofs.Marking.{MarkedSoFar}
use Rattle.lapd_c.proofs.waiting.links_by.Given as goal

abbrev pub invariant-loop-place : goal.invariant-loop-place
invariant-loop-place l = (m : Card) → FrameCardStands l.card m → MarkedSoFar (line_at l.line m) l.waits l.links l.place
