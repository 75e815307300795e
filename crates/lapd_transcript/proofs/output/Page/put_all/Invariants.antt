-- The invariants of the loops of `Page::put_all`.
use Rattle.lapd_transcript.proofs.Vocabulary.{take, joined, on, IsPut}
use Rattle.lapd_transcript.proofs.output.Page.put_all.Given as goal

-- the pieces so far were put
abbrev pub invariant-loop-piece : goal.invariant-loop-piece
invariant-loop-piece g l = IsPut (on g.T.Target.taken l.fn.self) (on g.T.Target.taken l.self) (joined (take l.piece-index l.pieces))
