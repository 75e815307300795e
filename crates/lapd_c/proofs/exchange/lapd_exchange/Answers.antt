-- Hand-written answers for `lapd_exchange`: what was exchanged is told, also where a link has room again, and its orders are carried out.
use Rattle.lapd_c.proofs.Vocabulary.{◌≡◌, ◌-◌, ◌∙◌, refl, sym, ap, subst, AnyCard, steps_made, with_ports}
use Rattle.std.specs.Prelude.{is_some}
use Rattle.lapd_card.specs.Kinds.{counters_of}
use Rattle.lapd_timed.specs.Called.{keeps_timers}
use Rattle.lapd_timed.specs.declared.timed_card.TimedCard.{TimedCard}
use Rattle.model_card.specs.Counted.{all_counted}
use Rattle.model_card.specs.Run.{moments}
use Rattle.model_card.specs.ports.Run.{meant_all}
use Rattle.lapd_c.specs.Counted.{counters_held}
use Rattle.lapd_c.specs.Exchange.{Exchanged}
use Rattle.lapd_c.specs.Kept.{is_timed, timers_held}
use Rattle.lapd_c.proofs.Reopening.{settled_exchanged}
use Rattle.lapd_c.proofs.Served.{there}
use Rattle.lapd_c.proofs.Timing.{all-there}
use Rattle.lapd_c.proofs.exchange.lapd_exchange.Goals as goal

pub returns-clause-exchanged : goal.returns-clause-exchanged
returns-clause-exchanged c = λ m s w ok.
    let line = c.args.line in let taken = c.args.taken.now in let from = c.args.steps.now in let given = c.args.given.now in
    let given' = c.exchange.new.given in let to = c.exchange.new.steps in let told = c.settle.new.report in
    let steps = c.exchange.ensures.steps m (there c.in-Some.ensures.card (with_ports m) s) in
    let own : keeps_timers c.exchange.new.timed ≡ is_timed c.args.handle.now = c.exchange.ensures.timed ∙ sym (ap (λ held. is_some (timers_held held)) c.in-Some.ensures.card) in
    let same = c.settle.ensures.settles.timed in
    record {
      ok = refl;
      exchanged = subst (λ (card : AnyCard). Exchanged (is_timed c.args.handle.now) line taken from m card given given' to told) (sym (ap (λ (t : TimedCard). t.card) same))
          (subst (λ b. Exchanged b line taken from m c.exchange.new.timed.card given given' to told) own
          (settled_exchanged _ line from taken m c.exchange.new.timed.card given given' to told c.exchange.new.report c.settle.ensures.rest steps.made));
      obeyed = all-there c.in-Some.ensures.card (steps_made line taken from (to - from)) m c.settle.new.self.timed same steps.carried;
      counted = ap (λ (t : TimedCard). counters_of t.card) same ∙ steps.counted
          ∙ ap (λ all. all_counted all (moments m.card (meant_all m (steps_made line taken from (to - from))))) (sym (ap counters_held c.in-Some.ensures.card));
    }
