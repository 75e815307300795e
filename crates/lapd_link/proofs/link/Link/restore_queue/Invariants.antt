-- The invariants of the loops of `Link::restore_queue`.
use Rattle.std.proofs.Common.{◌-◌}
use Rattle.lapd_store.specs.Store.{used_slots}
use Rattle.lapd_link.proofs.ReadContents.{Taken}
use Rattle.lapd_link.proofs.link.Link.restore_queue.Given as goal

abbrev pub invariant-loop : goal.invariant-loop
invariant-loop g l =
    Taken (l.slots - used_slots (g.S.Shelf.store l.initial.shelf)) l.counter l.initial.reader l.reader
    l.initial.self (g.S.Shelf.store l.initial.shelf) l.self (g.S.Shelf.store l.shelf)
