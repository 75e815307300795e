-- Hand-written answers for `named_in`.
use Rattle.lapd_script.proofs.Vocabulary.{sym, ◌∙◌}
use Rattle.lapd_script.proofs.WordRows.{row_passed, row_found, rows_passed}
use Rattle.lapd_script.proofs.word.named_in.Goals as goal

pub loop-own-preserved : goal.loop-own-preserved
loop-own-preserved c = c.loop-own.invariant ∙ row_passed c.args.name.now c.args.rows.now c.loop-own.own-index _ c.loop-own-test.true c.if-is.ensures

pub returns-then-is : goal.returns-then-is
returns-then-is c = sym (c.loop-own.invariant ∙ row_found c.args.name.now c.args.rows.now c.loop-own.own-index _ c.loop-own-test.true c.if-is.ensures)

pub returns : goal.returns
returns c = sym (c.loop-own.invariant ∙ rows_passed c.args.name.now c.args.rows.now c.loop-own.own-index c.loop-own-test.false)
