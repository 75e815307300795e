-- Hand-written answers for `joined`.
use Rattle.lapd_text.proofs.Vocabulary.{◌∙◌}
use Rattle.lapd_text.proofs.OctetDigits.{ok_gives}
use Rattle.lapd_text.proofs.Pieces.{one_piece_more, piece_fits}
use Rattle.lapd_text.proofs.shown.joined.Goals as goal

pub loop-piece-preserved : goal.loop-piece-preserved
loop-piece-preserved c =
    ok_gives c.try_extend_from_slice.result (c.try_extend_from_slice.ensures.variant.1 (piece_fits c.args.pieces.now c.loop-piece.piece-index c.loop-piece.head.items 128 c.requires c.loop-piece-test.true c.loop-piece.invariant)) c.try_extend_from_slice.ensures.ok
    ∙ one_piece_more c.args.pieces.now c.loop-piece.piece-index c.loop-piece.head.items c.loop-piece-test.true c.loop-piece.invariant
