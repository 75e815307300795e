-- The invariants of the loops of `Units::restore`.
use Rattle.lapd_line.proofs.RestoredUnits.{UnitsSoFar}
use Rattle.lapd_line.proofs.units.Units.restore.Given as goal

abbrev pub invariant-loop : goal.invariant-loop
invariant-loop g l = UnitsSoFar l.n201 l.slots l.initial.reader l.reader l.fn.self (g.S.Shelf.store l.fn.shelf) l.counter l.self (g.S.Shelf.store l.shelf)
