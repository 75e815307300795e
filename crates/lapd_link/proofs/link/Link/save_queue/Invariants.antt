-- The invariants of the loops of `Link::save_queue`.
use Rattle.std.proofs.Common.{ℕ, List, take}
use Rattle.std.specs.Prelude.{All, flat_map}
use Rattle.lapd_image.specs.Numbers.{contents}
use Rattle.lapd_image.specs.Puts.{Puts}
use Rattle.lapd_store.specs.Ownership.{Keeps, Owned}
use Rattle.model_bits.specs.StuffingLaws.{AreOctets}
use Rattle.lapd_link.proofs.link.Link.save_queue.Given as goal

abbrev pub invariant-loop-place : goal.invariant-loop-place
invariant-loop-place g l = record {
  puts : (messages : List (List ℕ)) (others : List Owned) → Keeps (g.S.Shelf.store l.shelf) l.self.queue.slots messages others
      → Puts (flat_map contents (take l.place messages)) l.fn.at l.fn.out l.end l.out;
  octets : (messages : List (List ℕ)) (others : List Owned) → Keeps (g.S.Shelf.store l.shelf) l.self.queue.slots messages others
      → All AreOctets (take l.place messages);
}
