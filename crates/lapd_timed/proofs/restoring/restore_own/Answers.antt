-- A line's own timer is started, or it runs none.
use Rattle.std.proofs.Common.{arith, ◌+◌, ◌*◌, ◌<◌, ap, sym, subst, ◌∙◌, length}
use Rattle.std.proofs.lemmas.Result.{on_err_weaker, on_ok_weaker}
use Rattle.lapd_card.specs.Running.{own_timers}
use Rattle.lapd_clock.specs.MomentImage.{IsStartedBy}
use Rattle.lapd_timed.proofs.OfCard.{length_set}
use Rattle.lapd_timed.proofs.MomentsRead.{no-own, one-own, place-within}
use Rattle.model_card.specs.Card.{line_at}
use Rattle.lapd_timed.proofs.Refilled.{none-one, passes-one}
use Rattle.lapd_timed.proofs.restoring.restore_own.Goals as goal

pub slot-place-requires-clause-line : goal.slot-place-requires-clause-line
slot-place-requires-clause-line g c = omega (arith, c.requires.line, c.requires.few)

pub restore-requires : goal.restore-requires
restore-requires g c =
    record { some_time = c.requires.some_time; place = omega (arith, c.slot-place.ensures, c.requires.size, place-within c.args.line _ (4 * c.args.terminals + 2) c.own_kind_of.result c.requires.line (omega (arith, c.own_kind_of.ensures.few))) }

pub returns-in-None-clause-read : goal.returns-in-None-clause-read
returns-in-None-clause-read g c = λ m s places rests.
    no-own m c.args.terminals c.args.line (subst (λ d. c.args.line < d.lines) (sym s.config) c.requires.line) c.args.reader.now c.args.moments.now places rests (c.in-None.ensures m s)

pub returns-in-Some-clause-size : goal.returns-in-Some-clause-size
returns-in-Some-clause-size g c = on_ok_weaker c.restore.result (λ started. ap length started.is ∙ length_set c.args.moments.now c.slot-place.result _) c.restore.ensures.read

pub returns-in-Some-clause-read : goal.returns-in-Some-clause-read
returns-in-Some-clause-read g c = on_ok_weaker c.restore.result (λ started m s places rests.
    one-own m c.args.terminals c.args.line (subst (λ d. c.args.line < d.lines) (sym s.config) c.requires.line) c.in-Some.timer c.args.reader.now _ c.args.moments.now _ places rests (c.in-Some.ensures m s)
    (subst (λ i. IsStartedBy i c.in-Some.timer c.args.reader.now c.restore.new.reader c.args.moments.now c.restore.new.self) (c.slot-place.ensures ∙ ap (λ k. c.args.line * (4 * c.args.terminals + 2) + (2 * 0 + k)) c.own_kind_of.ensures.is) started)) c.restore.ensures.read

pub returns-in-Some-clause-passes : goal.returns-in-Some-clause-passes
returns-in-Some-clause-passes g c = on_ok_weaker c.restore.result (λ started m s.
    passes-one c.requires.some_time c.args.line c.slot-place.result c.in-Some.timer (own_timers (line_at c.args.line m)) c.args.reader.now _ c.args.moments.now _ (c.in-Some.ensures m s) started) c.restore.ensures.read

pub returns-in-Some-clause-none : goal.returns-in-Some-clause-none
returns-in-Some-clause-none g c = on_err_weaker c.restore.result (λ none m s.
    none-one c.args.line c.in-Some.timer (own_timers (line_at c.args.line m)) c.args.reader.now (c.in-Some.ensures m s) none) c.restore.ensures.none
