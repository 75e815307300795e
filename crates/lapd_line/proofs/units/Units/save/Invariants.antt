-- The invariants of the loops of `Units::save`.
use Rattle.lapd_line.proofs.SavedSteps.{UnitsPut}
use Rattle.lapd_line.proofs.units.Units.save.Given as goal

abbrev pub invariant-loop-index : goal.invariant-loop-index
invariant-loop-index g l = UnitsPut (g.S.Shelf.store l.fn.shelf) l.fn.self.waiting l.fn.at l.fn.out l.index l.end l.out
