-- The invariants of the loops of `FrameCard::stored`.
use Rattle.lapd_card.proofs.Vocabulary.{◌≡◌, ◌*◌, ◌≤◌, take, sum_by, held_in, FrameStands}
use Rattle.model_card.specs.Card as machine
use Rattle.lapd_card.proofs.frame_card.FrameCard.stored.Given as goal

-- what the lines so far hold
abbrev pub invariant-loop-line : goal.invariant-loop-line
invariant-loop-line g l = record {
  exact : (m : machine.Card) → FrameStands g.S.Shelf.store l.self m → l.held ≡ sum_by (held_in m.config) (take l.line-index m.lines);
  small : l.held ≤ l.line-index * 4294967295;
}
