-- The invariants of the loops of `give`.
use Rattle.lapd_transcript.proofs.Vocabulary.{◌≡◌, ℕ, ◌+◌, ◌*◌, List, length, Item, HasPut}
use Rattle.lapd_transcript.proofs.terminal.give.Given as goal

-- the octets so far were put, and are as many bits as are no longer left
abbrev pub invariant-loop-line : goal.invariant-loop-line
invariant-loop-line l = record {
  moved : 8 * length l.line.items + length l.framer.left ≡ 8 * length l.fn.line.items + length l.fn.framer.left;
  same : l.framer.room ≡ l.fn.framer.room;
  put : (before : List ℕ) (items : List Item) → HasPut l.fn.framer before l.fn.line.items items → HasPut l.framer before l.line.items items;
}

-- each octet takes eight of the bits that are left
abbrev pub decreases-loop-line : goal.decreases-loop-line
decreases-loop-line l = length l.framer.left
