-- The invariants of the loops of `restore_counters`.
use Rattle.lapd_card.proofs.ReadCounters.{CountedSoFar}
use Rattle.lapd_card.proofs.saved.restore_counters.Given as goal

-- the counters of the lines so far are read
abbrev pub invariant-loop-number : goal.invariant-loop-number
invariant-loop-number l = CountedSoFar l.fn.reader l.reader l.fn.lines.items l.lines.items l.number
