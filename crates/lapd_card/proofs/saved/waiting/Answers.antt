-- Hand-written answers for `waiting`.
use Rattle.lapd_card.proofs.Vocabulary.{arith}
use Rattle.lapd_card.proofs.Restored.{all_wait, one_more_waits}
use Rattle.lapd_card.proofs.saved.waiting.Goals as goal

pub loop-number-preserved : goal.loop-number-preserved
loop-number-preserved c =
    one_more_waits c.loop-number.invariant c.requires (omega (arith, c.loop-number-test.true, c.len-number-end.ensures, c.args.lines.now.ok.0)) c.index.ensures c.has_next.ensures c.set.ensures

pub returns : goal.returns
returns c = all_wait c.loop-number.waiting (omega (arith, c.loop-number-test.false, c.loop-number.auto.number-end, c.len-number-end.ensures, c.args.lines.now.ok.0)) c.loop-number.invariant
