-- Hand-written answers for `lapd_expire`: the card has no timers, before or after it.
use Rattle.lapd_c.proofs.Vocabulary.{card_in, refl, sym, ap, subst, ◌∙◌, arith, at, ShowsAnswer}
use Rattle.model_line.specs.Event.{expiry}
use Rattle.model_card.specs.Counted.{moment_counted, moment_of}
use Rattle.model_card.specs.Machine as machine
use Rattle.model_timed.specs.Frames.{orders_at}
use Rattle.lapd_card.specs.Kinds.{after, answer, counters_of}
use Rattle.lapd_timed.specs.declared.timed_card.TimedCard.{TimedCard}
use Rattle.lapd_c.specs.Counted.{counters_held}
use Rattle.lapd_c.specs.Kept.{timers_held}
use Rattle.lapd_c.specs.Asked.{expire_asked, expiry_at, if_ok}
use Rattle.lapd_c.specs.CalledBy.{inside}
use Rattle.lapd_c.specs.Timers.{timer_in}
use Rattle.lapd_c.proofs.Calling.{as_it_was, carried_untimed, is_called, never_refused_expiry, none_there, served_at, shown_untimed, wrong_at}
use Rattle.lapd_c.proofs.WrongStatuses.{NotOk, timer_not_ok}
use Rattle.std.proofs.Common.{◌≡◌, Err, rules}
use Rattle.lapd_c.proofs.Reopening.{still_answered, still_stands}
use Rattle.lapd_c.proofs.Served.{there}
use Rattle.lapd_c.proofs.events.lapd_expire.Goals as goal

pub returns-clause-called : goal.returns-clause-called
returns-clause-called c = is_called (expire_asked c.args.line c.args.timer.now) _ _ _ _ _ (search rules) (λ m s w.
    let on = there c.in-Some.ensures.card m s.0 in
    let e = at c.args.line (expiry c.in-Ok.value) in
    let same = ap (λ (t : TimedCard). t.card) c.tell_reopened.ensures.settles.timed in
    served_at (expire_asked c.args.line c.args.timer.now) _ _ _ _ m (inside e) (ap (if_ok (expiry_at c.args.line)) (sym c.timer.ensures ∙ c.in-Ok.is))
    (never_refused_expiry c.args.line c.in-Ok.value (card_in m)) (record {
      ok = refl;
      stands = still_stands (after e m) same (c.expire.ensures.called.leads.stands m on);
      shown = shown_untimed _ s.1 c.tell_reopened.new.report _ (answer e m) (still_answered c.tell_reopened.new.report c.show.new.self _ c.tell_reopened.ensures.rest
          (subst (ShowsAnswer c.show.new.self) (c.expire.ensures.called.answers m on) (c.show.ensures (omega arith))));
      obeyed = carried_untimed c.args.line (orders_at e (card_in m)) (card_in m) (machine.after e (card_in m)) _ _
          (none_there (timers_held c.args.handle.now.slot.card) s.1) (ap (λ (t : TimedCard). t.timers) c.tell_reopened.ensures.settles.timed ∙ c.expire.ensures.timers);
      counted = ap counters_of same ∙ c.expire.ensures.called.leads.counted m on ∙ ap (λ all. moment_counted all (moment_of (card_in m) e)) (sym (ap counters_held c.in-Some.ensures.card));
    })) (λ not_ok. absurd (not_ok refl))

-- a number that no timer has
pub returns-in-Err-clause-called : goal.returns-in-Err-clause-called
returns-in-Err-clause-called c =
    let wrong : timer_in c.args.timer.now ≡ Err c.in-Err.wrong = sym c.timer.ensures ∙ c.in-Err.is in
    is_called (expire_asked c.args.line c.args.timer.now) c.args.handle.now _ _ _ _ (search rules)
    (λ m s w. wrong_at (expire_asked c.args.line c.args.timer.now) _ _ _ _ m (ap (if_ok (expiry_at c.args.line)) wrong) (subst (λ o. NotOk o) wrong (timer_not_ok c.args.timer.now)))
    (λ _. as_it_was c.args.line c.args.handle.now _ (search rules))
