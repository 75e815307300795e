-- Hand-written answers for `restore_counters`.
use Rattle.lapd_card.proofs.Vocabulary.{arith}
use Rattle.lapd_image.proofs.Reading.{on_err}
use Rattle.lapd_card.proofs.ReadCounters.{all_counted, no_more_counted, none_counted, one_more_counted}
use Rattle.lapd_card.proofs.saved.restore_counters.Goals as goal

pub loop-number-init : goal.loop-number-init
loop-number-init c = none_counted c.args.reader.now c.args.lines.now.items

pub returns-in_err-restore_counters-clause-none : goal.returns-in_err-restore_counters-clause-none
returns-in_err-restore_counters-clause-none c =
    on_err c.from_residual.result
    (no_more_counted c.loop-number.invariant (omega (arith, c.loop-number-test.true, c.len-number-end.ensures, c.args.lines.now.ok.0, c.loop-number.invariant.stay.count)) c.index_mut.ensures.value c.in_err-restore_counters.ensures.none)

pub loop-number-preserved : goal.loop-number-preserved
loop-number-preserved c =
    one_more_counted c.loop-number.invariant (omega (arith, c.loop-number-test.true, c.len-number-end.ensures, c.args.lines.now.ok.0, c.loop-number.invariant.stay.count)) c.index_mut.ensures.value c.in_ok-restore_counters.ensures.read c.in_ok-restore_counters.ensures.layer

pub returns-clause-read : goal.returns-clause-read
returns-clause-read c = all_counted c.loop-number.invariant (omega (arith, c.loop-number-test.false, c.len-number-end.ensures, c.args.lines.now.ok.0, c.loop-number.invariant.stay.count))
