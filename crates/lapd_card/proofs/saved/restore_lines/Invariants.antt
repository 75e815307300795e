-- The invariants of the loops of `restore_lines`.
use Rattle.lapd_card.proofs.ReadLines.{ReadSoFar}
use Rattle.lapd_card.proofs.saved.restore_lines.Given as goal

-- the lines so far are read
abbrev pub invariant-loop-number : goal.invariant-loop-number
invariant-loop-number g l = ReadSoFar l.config l.fn.reader l.reader l.lines.items (g.S.Shelf.store l.shelf) l.number
