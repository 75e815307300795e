-- Line by line.
use Rattle.std.proofs.Common.{arith, ◌<◌, ap, subst, ◌∙◌}
use Rattle.lapd_image.proofs.Reading.{on_err}
use Rattle.lapd_timed.specs.MomentsRead.{lines_part, AreLinesRead, FallsUntil, Passes}
use Rattle.lapd_timed.proofs.Passing.{none-number, passes-number}
use Rattle.lapd_timed.proofs.MomentsRead.{one-more-line}
use Rattle.model_image.specs.Clocks.{moments_at}
use Rattle.lapd_timed.proofs.restoring.restore_lines.Goals as goal

pub returns-in_err-restore_line-clause-none : goal.returns-in_err-restore_line-clause-none
returns-in_err-restore_line-clause-none g c = on_err c.from_residual.result (λ m s terminals.
    none-number (λ clock. moments_at m clock) c.loop-line.line m.config.lines (omega (arith, c.loop-line-test.true, c.loop-line.auto.line-end, c.lines-line-end.ensures, ap (λ d. d.lines) s.config))
    (c.loop-line.invariant.passes m s terminals) (c.in_err-restore_line.ensures.none m s terminals))

pub loop-line-preserved : goal.loop-line-preserved
loop-line-preserved g c = record {
  size = c.in_ok-restore_line.ensures.size ∙ c.loop-line.invariant.size;
  until = λ all. c.in_ok-restore_line.ensures.until (c.loop-line.invariant.until all);
  read = λ m s start.
      let within : c.loop-line.line < m.config.lines = omega (arith, c.loop-line-test.true, c.loop-line.auto.line-end, c.lines-line-end.ensures, ap (λ d. d.lines) s.config) in
      let read = c.loop-line.invariant.read m s start in
      one-more-line m c.args.terminals c.loop-line.line c.args.reader.now c.loop-line.reader _ c.loop-line.moments _ within read (c.in_ok-restore_line.ensures.read m s read.places (read.others c.loop-line.line (omega arith) within));
  passes = λ m s terminals. passes-number (λ clock. moments_at m clock) c.loop-line.line (c.loop-line.invariant.passes m s terminals) (c.in_ok-restore_line.ensures.passes m s terminals);
}

pub returns-clause-read : goal.returns-clause-read
returns-clause-read g c = λ m s start.
    subst (λ n. AreLinesRead m c.args.terminals n c.args.reader.now c.loop-line.reader c.loop-line.moments) (omega (arith, c.loop-line-test.false, c.loop-line.auto.line-end, c.lines-line-end.ensures, ap (λ d. d.lines) s.config)) (c.loop-line.invariant.read m s start)

pub returns-clause-passes : goal.returns-clause-passes
returns-clause-passes g c = λ m s terminals.
    subst (λ n. Passes (lines_part m n) (FallsUntil c.args.latest) c.args.reader.now c.loop-line.reader) (omega (arith, c.loop-line-test.false, c.loop-line.auto.line-end, c.lines-line-end.ensures, ap (λ d. d.lines) s.config)) (c.loop-line.invariant.passes m s terminals)
