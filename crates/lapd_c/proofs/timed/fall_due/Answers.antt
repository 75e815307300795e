-- Hand-written answers for `fall_due`.
use Rattle.lapd_c.proofs.Vocabulary.{◌<◌, ◌≤◌, false≢true, subst, sym, ap, refl, ◌∙◌, arith, none-some, ShowsAnswer, Config, card_in}
use Rattle.std.proofs.Common.{inl, inr, None, option_map}
use Rattle.std.specs.Prelude.{◌⊎◌, ◌^◌}
use Rattle.model_card.specs.Counted.{moment_counted, moment_of}
use Rattle.model_timed.specs.Changes.{noted}
use Rattle.model_timed.specs.Clock.{at_moment, due}
use Rattle.lapd_card.specs.Kinds.{after, answer, counters_of}
use Rattle.lapd_timed.specs.Places.{named_by}
use Rattle.lapd_timed.specs.declared.timed_card.TimedCard.{TimedCard}
use Rattle.lapd_timed.proofs.MarkedSteps.{noted-again}
use Rattle.lapd_timed.proofs.Steps.{moment-is}
use Rattle.lapd_c.specs.Cards.{marks_held}
use Rattle.lapd_c.specs.Counted.{counters_held}
use Rattle.lapd_c.specs.declared.plain.reports.PlainReport.{PlainReport}
use Rattle.lapd_c.specs.Kept.{ChangesStandIn, TimersStandIn, seen_by, without_orders}
use Rattle.lapd_c.specs.FallsDue.{expires}
use Rattle.lapd_c.specs.Reopened.{TellsReopened}
use Rattle.lapd_c.specs.Reports.{given_up_tei}
use Rattle.lapd_c.specs.Timers.{plain_timer}
use Rattle.lapd_c.proofs.Reopening.{answered_still, reopened_still, settled_answered, still_stands}
use Rattle.lapd_c.proofs.Served.{frames_stand, if_fell, marks_there, none_due, still_within, there, timers_there}
use Rattle.lapd_c.proofs.Timing.{Fallen, due-later, fallen, untimed, went}
use Rattle.lapd_c.proofs.WholeFrames.{none_said}
use Rattle.lapd_c.proofs.timed.fall_due.Goals as goal

-- a card whose timers are the caller's has none
pub returns-then-not-is_timed-clause-wrong_time : goal.returns-then-not-is_timed-clause-wrong_time
returns-then-not-is_timed-clause-wrong_time c = λ m clock s stood.
    untimed _ (sym c.is_timed.ensures ∙ c.if-not-is_timed.true) (card_in m) clock (timers_there c.in-Some.ensures.card (card_in m) clock stood)

pub returns-then-not-is_timed-clause-none : goal.returns-then-not-is_timed-clause-none
returns-then-not-is_timed-clause-none c = λ m clock s stood.
    untimed _ (sym c.is_timed.ensures ∙ c.if-not-is_timed.true) (card_in m) clock (timers_there c.in-Some.ensures.card (card_in m) clock stood)

pub returns-then-not-is_timed-clause-due : goal.returns-then-not-is_timed-clause-due
returns-then-not-is_timed-clause-due c = λ m clock s stood.
    untimed _ (sym c.is_timed.ensures ∙ c.if-not-is_timed.true) (card_in m) clock (timers_there c.in-Some.ensures.card (card_in m) clock stood)

-- the moment is refused
pub returns-in-Err-clause-none : goal.returns-in-Err-clause-none
returns-in-Err-clause-none c = λ m clock s stood later before.
    let now = moment-is _ (card_in m) clock (timers_there c.in-Some.ensures.card (card_in m) clock stood) in
    elim (c.in-Err.ensures.refused.0 refl) [
      | inl early ↦ absurd (omega (arith, early, later, now))
      | inr late ↦ absurd (omega (arith, late, before))
    ]

pub returns-in-Err-clause-due : goal.returns-in-Err-clause-due
returns-in-Err-clause-due c = λ m clock s stood later before.
    let now = moment-is _ (card_in m) clock (timers_there c.in-Some.ensures.card (card_in m) clock stood) in
    elim (c.in-Err.ensures.refused.0 refl) [
      | inl early ↦ absurd (omega (arith, early, later, now))
      | inr late ↦ absurd (omega (arith, late, before))
    ]

-- nothing is due
pub returns-in-None-fall_due-clause-wrong_time : goal.returns-in-None-fall_due-clause-wrong_time
returns-in-None-fall_due-clause-wrong_time c = λ m clock s stood wrong.
    absurd (false≢true (c.in-Ok.ensures.refused.1 (subst (λ n. (c.args.now < n) ⊎ (2 ^ 63 ≤ c.args.now)) (moment-is _ (card_in m) clock (timers_there c.in-Some.ensures.card (card_in m) clock stood)) wrong)))

pub returns-in-None-fall_due-clause-none : goal.returns-in-None-fall_due-clause-none
returns-in-None-fall_due-clause-none c = λ m clock s stood later before none.
    let w = c.in-Ok.ensures.went in
    let same = c.in-None-fall_due.ensures.none.0 in
    let on = there c.in-Some.ensures.card m s in
    let gone = went c.args.now _ c.go_to.new.self w m clock on (timers_there c.in-Some.ensures.card (card_in m) clock stood) in record {
      none = refl;
      stands = still_stands m (ap (λ (t : TimedCard). t.card) same ∙ w.card) on;
      timers = subst (λ (t : TimedCard). TimersStandIn t.timers (card_in m) (at_moment c.args.now clock)) (sym same) gone.0;
      noted = λ marks stood_marks.
          subst (λ (t : TimedCard). ChangesStandIn t.timers (card_in m) (noted c.args.now (card_in m) (noted c.args.now (card_in m) marks))) (sym same)
          (noted-again _ (card_in m) c.args.now _ (gone.1 marks (marks_there c.in-Some.ensures.card (card_in m) marks stood_marks)));
      later = due-later clock.running c.args.now none;
      marks = sym (ap marks_held c.in-Some.ensures.card);
      counters = ap (λ (t : TimedCard). counters_of t.card) same ∙ ap counters_of w.card ∙ sym (ap counters_held c.in-Some.ensures.card);
    }

pub returns-in-None-fall_due-clause-due : goal.returns-in-None-fall_due-clause-due
returns-in-None-fall_due-clause-due c = λ m clock s stood later before.
    let gone = went c.args.now _ c.go_to.new.self c.in-Ok.ensures.went m clock (there c.in-Some.ensures.card m s) (timers_there c.in-Some.ensures.card (card_in m) clock stood) in
    none_said _ _ (none_due _ (c.in-None-fall_due.ensures.due (card_in m) (at_moment c.args.now clock) gone.0))

-- What is due first falls due, is counted, and it is told which link has room again.
pub returns-clause-wrong_time : goal.returns-clause-wrong_time
returns-clause-wrong_time c = λ m clock s stood wrong.
    absurd (false≢true (c.in-Ok.ensures.refused.1 (subst (λ n. (c.args.now < n) ⊎ (2 ^ 63 ≤ c.args.now)) (moment-is _ (card_in m) clock (timers_there c.in-Some.ensures.card (card_in m) clock stood)) wrong)))

pub returns-clause-none : goal.returns-clause-none
returns-clause-none c = λ m clock s stood later before none.
    let gone = went c.args.now _ c.go_to.new.self c.in-Ok.ensures.went m clock (there c.in-Some.ensures.card m s) (timers_there c.in-Some.ensures.card (card_in m) clock stood) in
    absurd (none-some c.in-Some-fall_due.value (sym (c.in-Some-fall_due.ensures.due (card_in m) (at_moment c.args.now clock) gone.0 ∙ ap (option_map named_by) none)))

pub returns-clause-due : goal.returns-clause-due
returns-clause-due c = λ m clock s stood later before.
    let w = c.in-Ok.ensures.went in
    let f = c.in-Some-fall_due.ensures in
    let line = c.in-Some-fall_due.value.0 in
    let timer = c.in-Some-fall_due.value.1 in
    let e = expires line timer in
    let on = there c.in-Some.ensures.card m s in
    let gone = went c.args.now _ c.go_to.new.self w m clock on (timers_there c.in-Some.ensures.card (card_in m) clock stood) in
    let mid = still_stands m w.card on in
    let due_is = f.due (card_in m) (at_moment c.args.now clock) gone.0 in
    let within : line < (card_in m).config.lines = subst (λ (d : Config). line < d.lines) (sym (frames_stand _ m mid).config) f.fell.within in
    let led = f.fell.called.leads.stands m mid in
    let tells = c.settle.ensures.settles.tells (after e m) led (still_within line e m within) in
    let same = c.settle.ensures.settles.timed in
    let fell = subst (λ (t : TimedCard). Fallen line timer m (at_moment c.args.now clock) c.go_to.new.self.timers t.timers) (sym same)
    (fallen line timer c.go_to.new.self c.fall_due.new.self f.after m (at_moment c.args.now clock) mid gone.0 due_is) in
    if_fell _ (due (at_moment c.args.now clock)) c.in-Some-fall_due.value due_is _ _ _ _ _ _ (record {
      ok = refl;
      of_line = ap (λ (r : PlainReport). r.line) c.show_expired.ensures ∙ tells.of_line;
      expired = ap (λ (r : PlainReport). r.expired) c.show_expired.ensures;
      shown = subst (λ r. ShowsAnswer r (without_orders (answer e m))) (sym c.show_expired.ensures)
          (answered_still c.settle.new.report (plain_timer timer) (without_orders (answer e m))
          (subst (λ own. ShowsAnswer c.settle.new.report (seen_by own (answer e m))) (f.timed ∙ w.timed ∙ sym c.is_timed.ensures ∙ c.if-not-is_timed.false)
          (settled_answered _ c.settle.new.report c.show.new.self (answer e m) c.settle.ensures.rest (subst (ShowsAnswer c.show.new.self) (f.fell.called.answers m mid) (c.show.ensures (omega arith))))));
      given_up = ap (λ (r : PlainReport). r.given_up_tei) c.show_expired.ensures ∙ c.settle.ensures.settles.given_up
          ∙ sym (ap (λ (r : PlainReport). given_up_tei None r) c.show_expired.ensures);
      tail = ap (λ (r : PlainReport). r.reserved) c.show_expired.ensures ∙ c.settle.ensures.settles.tail;
      stands = still_stands (after e m) (ap (λ (t : TimedCard). t.card) same) led;
      timers = fell.timers;
      noted = λ marks stood_marks. fell.noted (noted c.args.now (card_in m) marks) (gone.1 marks (marks_there c.in-Some.ensures.card (card_in m) marks stood_marks));
      counted = ap (λ (t : TimedCard). counters_of t.card) same ∙ f.fell.called.leads.counted m mid
          ∙ ap (λ all. moment_counted all (moment_of (card_in m) e)) (ap counters_of w.card ∙ sym (ap counters_held c.in-Some.ensures.card));
      reopened = subst (TellsReopened line (card_in (after e m)) (marks_held c.args.handle.now.slot.card) c.settle.new.self.refused) (sym c.show_expired.ensures)
          (reopened_still line (card_in (after e m)) (marks_held c.args.handle.now.slot.card) c.settle.new.self.refused c.settle.new.report (plain_timer timer)
          (subst (λ marks. TellsReopened line (card_in (after e m)) marks c.settle.new.self.refused c.settle.new.report) (sym (ap marks_held c.in-Some.ensures.card)) tells));
    })
