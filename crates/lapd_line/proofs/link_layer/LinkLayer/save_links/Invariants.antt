-- The invariants of the loops of `LinkLayer::save_links`.
use Rattle.lapd_line.proofs.Vocabulary.{ℕ, ◌<◌, List, Owned, Line, LayerStands, link_at, range_with_len}
use Rattle.std.specs.Prelude.{flat_map}
use Rattle.lapd_image.specs.Puts.{Puts}
use Rattle.model_line.specs.Image.{link_numbered}
use Rattle.model_link.specs.Image.{IsSavedLink}
use Rattle.model_link.specs.Timed.{IsTimed}
use Rattle.lapd_line.proofs.link_layer.LinkLayer.save_links.Given as goal

-- those before this one are put, and may be saved
abbrev pub invariant-loop-number : goal.invariant-loop-number
invariant-loop-number g l = record {
  puts : (others : List Owned) (m : Line) → LayerStands l.fn.self (g.S.Shelf.store l.fn.shelf) others m
      → Puts (flat_map (link_numbered m) (range_with_len 0 l.number)) l.fn.at l.fn.out l.end l.out;
  saved : (others : List Owned) (m : Line) → LayerStands l.fn.self (g.S.Shelf.store l.fn.shelf) others m → ((number : ℕ) → IsTimed (link_at number m))
      → (number : ℕ) → number < l.number → IsSavedLink (link_at number m);
}
