-- Hand-written answers for `restore_lines`.
use Rattle.lapd_card.proofs.Vocabulary.{arith}
use Rattle.lapd_image.proofs.Reading.{on_err}
use Rattle.lapd_card.proofs.ReadLines.{all_read, as_many, no_line_more, none_read, one_more_line, stands_fresh}
use Rattle.lapd_card.proofs.saved.restore_lines.Goals as goal

pub loop-number-init : goal.loop-number-init
loop-number-init g c = none_read c.args.config.now c.args.lines.now.items (g.S.Shelf.store c.args.shelf.now) c.args.reader.now c.requires.fresh c.requires.room

pub restore-requires-clause-fresh : goal.restore-requires-clause-fresh
restore-requires-clause-fresh g c = stands_fresh c.loop-number.invariant (omega (arith, c.loop-number-test.true, c.len-number-end.ensures, c.args.lines.now.ok.0, as_many c.loop-number.invariant, c.requires.fresh.count)) c.index_mut.ensures.value

pub returns-in_err-restore-clause-none : goal.returns-in_err-restore-clause-none
returns-in_err-restore-clause-none g c = on_err c.from_residual.result (no_line_more c.loop-number.invariant (omega (arith, c.loop-number-test.true, c.len-number-end.ensures, c.args.lines.now.ok.0, as_many c.loop-number.invariant, c.requires.fresh.count)) c.index_mut.ensures.value c.requires.range c.from.ensures c.in_err-restore.ensures.none)

pub loop-number-preserved : goal.loop-number-preserved
loop-number-preserved g c = one_more_line c.loop-number.invariant (omega (arith, c.loop-number-test.true, c.len-number-end.ensures, c.args.lines.now.ok.0, as_many c.loop-number.invariant, c.requires.fresh.count)) c.index_mut.ensures.value c.in_ok-restore.ensures.read c.in_ok-restore.ensures.config c.in_ok-restore.ensures.limits (omega (arith, c.in_ok-restore.ensures.used, c.from.ensures))

pub returns-clause-read : goal.returns-clause-read
returns-clause-read g c = all_read c.loop-number.invariant (omega (arith, c.loop-number-test.false, c.len-number-end.ensures, c.args.lines.now.ok.0, as_many c.loop-number.invariant, c.requires.fresh.count))
