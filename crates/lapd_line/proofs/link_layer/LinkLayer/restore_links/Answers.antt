-- Hand-written answers for `LinkLayer::restore_links`.
use Rattle.lapd_line.proofs.Vocabulary.{arith, ranges_of}
use Rattle.lapd_image.proofs.Reading.{on_err}
use Rattle.lapd_line.proofs.RestoredRounds.{one_more, no_more, all_read}
use Rattle.lapd_line.proofs.link_layer.LinkLayer.restore_links.Goals as goal

pub returns-in_err-restore_link-clause-none : goal.returns-in_err-restore_link-clause-none
returns-in_err-restore_link-clause-none g c = on_err c.from_residual.result (no_more c.loop-number.invariant (omega (arith, c.loop-number-test.true, c.from-number-end.ensures)) c.in_err-restore_link.ensures.none)

pub loop-number-preserved : goal.loop-number-preserved
loop-number-preserved g c =
    one_more (ranges_of c.args.self.now.config c.requires.range).n201.most c.loop-number.invariant (omega (arith, c.loop-number-test.true, c.from-number-end.ensures)) c.in_ok-restore_link.ensures.read
    c.restore_link.ensures.others c.restore_link.ensures.limits c.restore_link.ensures.used

pub returns-clause-read : goal.returns-clause-read
returns-clause-read g c = all_read c.loop-number.invariant (omega (arith, c.loop-number-test.false, c.loop-number.auto.number-end, c.from-number-end.ensures))
