-- The invariants of the loops of `Card::stored`.
use Rattle.lapd_card.proofs.Vocabulary.{◌≡◌, ◌+◌, ◌*◌, ◌≤◌, take, sum_by}
use Rattle.model_card.specs.Stored as cards
use Rattle.model_card.specs.ports.Card as machine
use Rattle.model_card.specs.ports.Stored.{held_at}
use Rattle.lapd_card.specs.Stands.{OctetCardStands}
use Rattle.lapd_card.proofs.card.Card.stored.Given as goal

-- what the card of frames and the ports so far hold
abbrev pub invariant-loop-port : goal.invariant-loop-port
invariant-loop-port g l = record {
  exact : (m : machine.OctetCard) → OctetCardStands g.S.Shelf.store l.self m → l.held ≡ cards.stored m.card + sum_by (held_at m.card.config.n201) (take l.port-index m.ports);
  small : l.held ≤ 2233984 + l.port-index * 530;
}
