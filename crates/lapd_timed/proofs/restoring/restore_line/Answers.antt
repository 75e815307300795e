-- The links of a line, and then its own timer.
use Rattle.std.proofs.Common.{◌*◌, ◌<◌, sym, subst, ◌∙◌}
use Rattle.std.proofs.lemmas.Result.{on_err_weaker, on_ok_weaker}
use Rattle.lapd_image.proofs.Reading.{on_err}
use Rattle.lapd_timed.specs.MomentsRead.{links_part, own_part}
use Rattle.lapd_timed.proofs.Passing.{none-as, none-first, none-then, passes-as, passes-then}
use Rattle.lapd_timed.proofs.MomentsRead.{own-rests, whole-line}
use Rattle.lapd_timed.proofs.Refilled.{line-parts}
use Rattle.lapd_timed.proofs.restoring.restore_line.Goals as goal

pub returns-in_err-restore_links-clause-none : goal.returns-in_err-restore_links-clause-none
returns-in_err-restore_links-clause-none g c = on_err c.from_residual.result (λ m s terminals.
    none-as (line-parts m c.args.line c.args.terminals terminals) (none-first (links_part m c.args.line (2 * c.args.terminals)) (own_part m c.args.line) (c.in_err-restore_links.ensures.none m s terminals)))

pub returns-clause-size : goal.returns-clause-size
returns-clause-size g c = on_ok_weaker c.restore_own.result (λ size. size ∙ c.in_ok-restore_links.ensures.size) c.restore_own.ensures.size

pub returns-clause-until : goal.returns-clause-until
returns-clause-until g c = on_ok_weaker c.restore_own.result (λ own all. own (c.in_ok-restore_links.ensures.until all)) c.restore_own.ensures.until

pub returns-clause-read : goal.returns-clause-read
returns-clause-read g c = on_ok_weaker c.restore_own.result (λ own m s places rests.
    let there = subst (λ d. c.args.line < d.lines) (sym s.config) c.requires.line in
    let links = c.in_ok-restore_links.ensures.read m s places rests in
    whole-line m c.args.terminals c.args.line there c.args.reader.now c.restore_links.new.reader _ c.args.moments.now c.restore_links.new.moments _ links
    (own m s links.places (own-rests m c.args.terminals c.args.line there c.args.reader.now c.restore_links.new.reader c.args.moments.now c.restore_links.new.moments rests links))) c.restore_own.ensures.read

pub returns-clause-passes : goal.returns-clause-passes
returns-clause-passes g c = on_ok_weaker c.restore_own.result (λ own m s terminals.
    passes-as (line-parts m c.args.line c.args.terminals terminals)
    (passes-then (links_part m c.args.line (2 * c.args.terminals)) (own_part m c.args.line) (c.in_ok-restore_links.ensures.passes m s terminals) (own m s))) c.restore_own.ensures.passes

pub returns-clause-none : goal.returns-clause-none
returns-clause-none g c = on_err_weaker c.restore_own.result (λ own m s terminals.
    none-as (line-parts m c.args.line c.args.terminals terminals)
    (none-then (links_part m c.args.line (2 * c.args.terminals)) (own_part m c.args.line) (c.in_ok-restore_links.ensures.passes m s terminals) (own m s))) c.restore_own.ensures.none
