-- Two orders of a link are carried out together; or one after the other is.
use Rattle.std.proofs.Common.{◌∙◌, ◌≡◌, ◌<◌, ◌≤◌, length, take, sym, ap, subst, arith}
use Rattle.std.proofs.lemmas.List.{get_or_default}
use Rattle.lapd_clock.specs.Timer.{Start, T201}
use Rattle.model_timed.specs.Clock.{Clock, obeyed}
use Rattle.lapd_timed.specs.Stands.{held, AreAmid}
use Rattle.lapd_timed.specs.declared.card_timers.CardTimers.{CardTimers}
use Rattle.lapd_timed.proofs.Calls.{one-more, all-done}
use Rattle.lapd_timed.proofs.Carried.{before-all, order-placed, after-all}
use Rattle.lapd_timed.proofs.card_timers.CardTimers.obey_more.Goals as goal

pub loop-order-init : goal.loop-order-init
loop-order-init g c =
    let same : c.exchange.new.self ≡ c.args.self.now = c.exchange.ensures.unchanged c.if-not-exchange.true in
    record {
      lines = ap (λ (t : CardTimers). t.lines) same;
      terminals = ap (λ (t : CardTimers). t.terminals) same;
      changes = ap (λ (t : CardTimers). t.changes) same;
      amid = λ e m c' led is left.
          subst (λ (t : CardTimers). AreAmid e t m c') (sym same)
          (before-all g.S.Shelf.store c.args.card.now (held c.args.self.now) c.args.line (omega (arith, c.if-line-self.false)) e m c' led left);
    }

pub loop-order-preserved : goal.loop-order-preserved
loop-order-preserved g c =
    let there : c.loop-order.order-index < length c.args.orders.now = omega (arith, c.loop-order-test.true, c.loop-order.auto.order-index-end) in
    record {
      lines = c.carry_out.ensures.lines ∙ c.loop-order.invariant.lines;
      terminals = c.carry_out.ensures.terminals ∙ c.loop-order.invariant.terminals;
      changes = c.carry_out.ensures.changes ∙ c.loop-order.invariant.changes;
      amid = λ e m c' led is left.
          subst (λ (k : Clock). AreAmid e c.carry_out.new.self m k)
          (sym (one-more c.args.line c' c.args.orders.now c.loop-order.order-index _ there (get_or_default c.args.orders.now c.loop-order.order-index _ _ there)))
          (c.carry_out.ensures.after e m (obeyed c.args.line (take c.loop-order.order-index c.args.orders.now) c') left.reached led
          (order-placed g.S.Shelf.store c.args.card.now (held c.args.self.now) c.args.line (omega (arith, c.if-line-self.false)) e m c' c.args.orders.now c.loop-order.order-index (Start T201) _ led is left there
          (get_or_default c.args.orders.now c.loop-order.order-index _ _ there))
          (c.loop-order.invariant.amid e m c' led is left));
    }

pub returns-after-loop-order-clause-after : goal.returns-after-loop-order-clause-after
returns-after-loop-order-clause-after g c =
    let past : length c.args.orders.now ≤ c.loop-order.order-index = omega (arith, c.loop-order-test.false, c.loop-order.auto.order-index-end) in
    λ e m c' led is left.
    after-all g.S.Shelf.store c.args.card.now (held c.args.self.now) c.args.line (omega (arith, c.if-line-self.false)) e m c' c.args.orders.now (held c.loop-order.self) led is left
    (subst (λ (k : Clock). AreAmid e c.loop-order.self m k) (all-done c.args.line c' c.args.orders.now c.loop-order.order-index past) (c.loop-order.invariant.amid e m c' led is left))
