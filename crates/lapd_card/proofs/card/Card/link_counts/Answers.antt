-- Hand-written answers for `Card::link_counts`.
use Rattle.lapd_card.proofs.OnePort.{inside}
use Rattle.lapd_card.proofs.card.Card.link_counts.Goals as goal

pub returns : goal.returns
returns g c = inside g.S.Shelf.store c.self.view_is c.link_counts.ensures
