-- The lines so far are marked.
use Rattle.std.proofs.Common.{◌≡◌, length}
use Rattle.lapd_card.specs.FrameCard.{line_count}
use Rattle.lapd_card.specs.Kinds.{FrameCardStands}
use Rattle.model_card.specs.Card.{Card}
use Rattle.lapd_c.proofs.Marking.{LinesMarked}
use Rattle.lapd_c.proofs.waiting.mark.Given as goal

abbrev pub invariant-loop-line : goal.invariant-loop-line
invariant-loop-line l = record {
  count : length l.refused ≡ line_count l.card;
  marked : (m : Card) → FrameCardStands l.card m → LinesMarked m l.waits l.refused l.line;
}
