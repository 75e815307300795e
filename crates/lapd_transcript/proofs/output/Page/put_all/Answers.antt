-- Hand-written answers for `Page::put_all`.
use Rattle.lapd_transcript.proofs.Vocabulary.{ℕ, List, Bor, on}
use Rattle.lapd_transcript.proofs.Known.{leaves, puts_stop, nowhere}
use Rattle.lapd_transcript.proofs.output.Page.put_all.Goals as goal

pub returns-in_err-put : goal.returns-in_err-put
returns-in_err-put g c =
    leaves c.from_residual.result _ _ _ c.from_residual.ensures.0
    (puts_stop (λ (piece : Bor (List ℕ)). piece.now) c.args.pieces.now c.loop-piece.piece-index nowhere
    (on g.T.Target.taken c.args.self.now) (on g.T.Target.taken c.loop-piece.self) (on g.T.Target.taken c.put.new.self)
    c.loop-piece-test.true c.loop-piece.invariant c.in_err-put.ensures)
