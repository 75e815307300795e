-- The invariants of the loops of `LinkLayer::give_up_units`.
use Rattle.lapd_line.proofs.Vocabulary.{◌≡◌, List, drop, Owned, SameLimits, Line, LayerStands}
use Rattle.lapd_line.proofs.link_layer.LinkLayer.give_up_units.Given as goal

-- so many are given up, and the rest still stands
abbrev pub invariant-loop-given_up : goal.invariant-loop-given_up
invariant-loop-given_up g l = record {
  config : l.self.config ≡ l.fn.self.config;
  limits : SameLimits (g.S.Shelf.store l.fn.shelf) (g.S.Shelf.store l.shelf);
  after : (others : List Owned) (m : Line) → LayerStands l.fn.self (g.S.Shelf.store l.fn.shelf) others m → LayerStands l.self (g.S.Shelf.store l.shelf) others (record m { units = drop l.given_up m.units });
}
