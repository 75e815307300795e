-- The invariants of the loops of `waiting`.
use Rattle.lapd_card.proofs.Restored.{WaitSoFar}
use Rattle.lapd_card.proofs.saved.waiting.Given as goal

-- the lines so far are looked at
abbrev pub invariant-loop-number : goal.invariant-loop-number
invariant-loop-number l = WaitSoFar l.lines.items l.number l.waiting
