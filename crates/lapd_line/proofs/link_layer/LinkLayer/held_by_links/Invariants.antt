-- The invariants of the loops of `LinkLayer::held_by_links`.
use Rattle.lapd_line.proofs.Vocabulary.{◌≡◌, ◌*◌, ◌≤◌, List, sum_by, range_with_len, Owned, Store, Line, held_by_link, LayerStands}
use Rattle.lapd_line.proofs.link_layer.LinkLayer.held_by_links.Given as goal

abbrev pub invariant-loop-number : goal.invariant-loop-number
invariant-loop-number l =
    ((store : Store) (others : List Owned) (m : Line) → LayerStands l.self store others m
    → l.octets ≡ sum_by (held_by_link l.self.config m) (range_with_len 0 l.number)) × (l.octets ≤ 64 * l.number)
