-- No link was met so far.
use Rattle.model_card.specs.Card.{Card}
use Rattle.lapd_c.proofs.Vocabulary.{◌≤◌, FrameCardStands, AreFree}
use Rattle.lapd_c.proofs.links.first_link.Given as goal

abbrev pub invariant-loop-place : goal.invariant-loop-place
invariant-loop-place l = record {
  place : l.initial.from ≤ l.place;
  free : (m : Card) → FrameCardStands l.card m → AreFree l.line m l.initial.from l.place;
}
