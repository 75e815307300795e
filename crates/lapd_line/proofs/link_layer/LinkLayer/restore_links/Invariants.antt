-- The invariants of the loops of `LinkLayer::restore_links`.
use Rattle.lapd_line.proofs.RestoredRounds.{LinksSoFar}
use Rattle.lapd_line.proofs.link_layer.LinkLayer.restore_links.Given as goal

abbrev pub invariant-loop-number : goal.invariant-loop-number
invariant-loop-number g l = LinksSoFar l.slots l.fn.reader l.reader l.fn.self (g.S.Shelf.store l.fn.shelf) l.number l.self (g.S.Shelf.store l.shelf)
