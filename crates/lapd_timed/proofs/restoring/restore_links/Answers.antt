-- Link by link.
use Rattle.std.proofs.Common.{arith, ◌*◌, ◌<◌, sym, subst, ◌∙◌}
use Rattle.lapd_image.proofs.Reading.{on_err}
use Rattle.lapd_timed.specs.MomentsRead.{links_part, part_of_link, AreLinksRead, FallsUntil, Passes}
use Rattle.lapd_timed.proofs.Passing.{none-number, passes-number}
use Rattle.lapd_timed.proofs.MomentsRead.{next-rests, one-more-link}
use Rattle.lapd_timed.proofs.restoring.restore_links.Goals as goal

pub returns-in_err-restore_link-clause-none : goal.returns-in_err-restore_link-clause-none
returns-in_err-restore_link-clause-none g c = on_err c.from_residual.result (λ m s terminals.
    none-number (λ clock. part_of_link m clock c.args.line) c.loop-number.number (2 * c.args.terminals) (omega (arith, c.loop-number-test.true, c.loop-number.auto.number-end))
    (c.loop-number.invariant.passes m s terminals) (c.in_err-restore_link.ensures.none m s terminals))

pub loop-number-preserved : goal.loop-number-preserved
loop-number-preserved g c = record {
  size = c.in_ok-restore_link.ensures.size ∙ c.loop-number.invariant.size;
  until = λ all. c.in_ok-restore_link.ensures.until (c.loop-number.invariant.until all);
  read = λ m s places rests.
      let there = subst (λ d. c.args.line < d.lines) (sym s.config) c.requires.line in
      let read = c.loop-number.invariant.read m s places rests in
      one-more-link m c.args.terminals c.args.line there c.loop-number.number c.args.reader.now c.loop-number.reader _ c.args.moments.now c.loop-number.moments _ read
      (c.in_ok-restore_link.ensures.read m s read.places
      (next-rests m c.args.terminals c.args.line there c.loop-number.number c.args.reader.now c.loop-number.reader c.args.moments.now c.loop-number.moments (omega (arith, c.loop-number-test.true, c.loop-number.auto.number-end)) rests read));
  passes = λ m s terminals. passes-number (λ clock. part_of_link m clock c.args.line) c.loop-number.number (c.loop-number.invariant.passes m s terminals) (c.in_ok-restore_link.ensures.passes m s terminals);
}

pub returns-clause-read : goal.returns-clause-read
returns-clause-read g c = λ m s places rests.
    subst (λ n. AreLinksRead m c.args.terminals c.args.line n c.args.reader.now c.loop-number.reader c.args.moments.now c.loop-number.moments) (omega (arith, c.loop-number-test.false, c.loop-number.auto.number-end)) (c.loop-number.invariant.read m s places rests)

pub returns-clause-passes : goal.returns-clause-passes
returns-clause-passes g c = λ m s terminals.
    subst (λ n. Passes (links_part m c.args.line n) (FallsUntil c.args.latest) c.args.reader.now c.loop-number.reader) (omega (arith, c.loop-number-test.false, c.loop-number.auto.number-end)) (c.loop-number.invariant.passes m s terminals)
