-- The invariants of the loops of `joined`.
use Rattle.lapd_text.proofs.Vocabulary.{◌≡◌, take, joined}
use Rattle.lapd_text.proofs.shown.joined.Given as goal

-- the pieces so far are joined
abbrev pub invariant-loop-piece : goal.invariant-loop-piece
invariant-loop-piece l = l.head.items ≡ joined (take l.piece-index l.pieces)
