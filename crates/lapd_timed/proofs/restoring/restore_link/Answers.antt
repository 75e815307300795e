-- The timer of a link is started, or the link runs none.
use Rattle.std.proofs.Common.{arith, ◌+◌, ◌*◌, ◌<◌, ap, sym, subst, ◌∙◌, length}
use Rattle.std.proofs.lemmas.Result.{on_err_weaker, on_ok_weaker}
use Rattle.lapd_clock.specs.MomentImage.{IsStartedBy}
use Rattle.lapd_timed.proofs.OfCard.{length_set}
use Rattle.lapd_timed.proofs.MomentsRead.{no-link, one-link}
use Rattle.model_card.specs.Card.{line_at}
use Rattle.model_line.specs.Image.{timer_numbered}
use Rattle.lapd_timed.proofs.Refilled.{none-one, passes-one}
use Rattle.lapd_timed.proofs.restoring.restore_link.Goals as goal

pub slot-place-requires-clause-line : goal.slot-place-requires-clause-line
slot-place-requires-clause-line g c = omega (arith, c.requires.line, c.requires.few)

pub returns-in-None-clause-read : goal.returns-in-None-clause-read
returns-in-None-clause-read g c = λ m s places rests.
    no-link m c.args.terminals c.args.line (subst (λ d. c.args.line < d.lines) (sym s.config) c.requires.line) c.args.number c.args.reader.now c.args.moments.now places rests
    (c.in-None.ensures m s (subst (λ t. c.args.number < 2 * t) (sym places.terminals_are) c.requires.number))

pub returns-in-Some-clause-size : goal.returns-in-Some-clause-size
returns-in-Some-clause-size g c = on_ok_weaker c.restore.result (λ started. ap length started.is ∙ length_set c.args.moments.now c.slot-place.result _) c.restore.ensures.read

pub returns-in-Some-clause-read : goal.returns-in-Some-clause-read
returns-in-Some-clause-read g c = on_ok_weaker c.restore.result (λ started m s places rests.
    one-link m c.args.terminals c.args.line (subst (λ d. c.args.line < d.lines) (sym s.config) c.requires.line) c.args.number c.in-Some.timer c.args.reader.now _ c.args.moments.now _ c.requires.number places rests
    (c.in-Some.ensures m s (subst (λ t. c.args.number < 2 * t) (sym places.terminals_are) c.requires.number))
    (subst (λ i. IsStartedBy i c.in-Some.timer c.args.reader.now c.restore.new.reader c.args.moments.now c.restore.new.self) (c.slot-place.ensures ∙ ap (λ k. c.args.line * (4 * c.args.terminals + 2) + (2 * c.args.number + k)) c.kind_of.ensures.is) started)) c.restore.ensures.read

pub returns-in-Some-clause-passes : goal.returns-in-Some-clause-passes
returns-in-Some-clause-passes g c = on_ok_weaker c.restore.result (λ started m s terminals.
    passes-one c.requires.some_time c.args.line c.slot-place.result c.in-Some.timer (timer_numbered (line_at c.args.line m) c.args.number) c.args.reader.now _ c.args.moments.now _
    (c.in-Some.ensures m s (subst (λ t. c.args.number < 2 * t) (sym terminals) c.requires.number)) started) c.restore.ensures.read

pub returns-in-Some-clause-none : goal.returns-in-Some-clause-none
returns-in-Some-clause-none g c = on_err_weaker c.restore.result (λ none m s terminals.
    none-one c.args.line c.in-Some.timer (timer_numbered (line_at c.args.line m) c.args.number) c.args.reader.now
    (c.in-Some.ensures m s (subst (λ t. c.args.number < 2 * t) (sym terminals) c.requires.number)) none) c.restore.ensures.none
