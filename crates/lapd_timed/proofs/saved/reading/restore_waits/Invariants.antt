-- The invariant of the loop of `restore_waits`.
use Rattle.lapd_card.specs.FrameStands.{FrameStands}
use Rattle.lapd_timed.proofs.WaitsRead.{WaitsSoFar}
use Rattle.model_card.specs.Card.{Card}
use Rattle.lapd_timed.proofs.saved.reading.restore_waits.Given as goal

abbrev pub invariant-loop-line : goal.invariant-loop-line
invariant-loop-line g l = (m : Card) → FrameStands g.S.Shelf.store l.card m → WaitsSoFar m l.waits l.fn.reader l.reader l.line
