-- The two orders are carried out where the timer that stops runs, and in the place beside; or in the places of the link.
use Rattle.std.proofs.Common.{◌∙◌, ◌+◌, ap}
use Rattle.lapd_clock.specs.Timer.{T200, T203}
use Rattle.lapd_timed.specs.OfCard.{slot_of}
use Rattle.lapd_clock.specs.OwnPlaces.{with_timer, without_timer}
use Rattle.model_link.specs.declared.timers.LinkTimer.TheVariants as link
use Rattle.lapd_timed.specs.Stands.{held}
use Rattle.lapd_timed.proofs.Carried.{rests-alone, rests-done, sends-alone, sends-done}
use Rattle.lapd_timed.proofs.card_timers.CardTimers.exchange.Goals as goal

pub returns-then-exchange-clause-after : goal.returns-then-exchange-clause-after
returns-then-exchange-clause-after g c = λ _ e m k led is left.
    sends-alone (held c.args.self.now) c.args.line c.in-Some.tei c.in-Some.service c.of.result c.exchange.new.self (c.exchange.ensures.done c.if-exchange.true) c.of.ensures.is c.args.self.now.in_time c.of.ensures.most
    c.args.orders.now c.in-Some.ensures e m k led.line_is led.line_there is left

pub returns-in-Some-clause-after : goal.returns-in-Some-clause-after
returns-in-Some-clause-after g c = λ _.
    sends-done g.S.Shelf.store c.args.card.now (held c.args.self.now) c.args.line c.requires.line c.in-Some-link.number c.in-Some.tei c.in-Some.service c.in-Some-link.ensures.is
    c.of.result c.args.self.now.in_time c.of.ensures.most c.stop.new.self c.args.orders.now c.of.ensures.is
    (c.stop.ensures.after ∙ ap (λ i. without_timer i c.start.new.self) c.slot-in-Some.ensures
    ∙ ap (without_timer (slot_of c.args.self.now.terminals c.args.line c.in-Some-link.number link.T203))
    (c.start.ensures.after ∙ ap (λ i. with_timer i (T200 c.in-Some.service c.in-Some.tei) (c.args.self.now.moment + c.of.result) c.exchange.new.self) c.slot.ensures
    ∙ ap (with_timer (slot_of c.args.self.now.terminals c.args.line c.in-Some-link.number link.T200) (T200 c.in-Some.service c.in-Some.tei) (c.args.self.now.moment + c.of.result)) (c.exchange.ensures.unchanged c.if-exchange.false)))
    c.in-Some.ensures

pub returns-then-exchange-2-clause-after : goal.returns-then-exchange-2-clause-after
returns-then-exchange-2-clause-after g c = λ _ e m k led is left.
    rests-alone (held c.args.self.now) c.args.line c.in-Some-link_rests.tei c.in-Some-link_rests.service c.of-in-Some-link_rests.result c.exchange-in-Some-link_rests.new.self (c.exchange-in-Some-link_rests.ensures.done c.if-exchange-2.true)
    c.of-in-Some-link_rests.ensures.is c.args.self.now.in_time c.of-in-Some-link_rests.ensures.most c.args.orders.now c.in-Some-link_rests.ensures e m k led.line_is led.line_there is left

pub returns-in-Some-link_rests-clause-after : goal.returns-in-Some-link_rests-clause-after
returns-in-Some-link_rests-clause-after g c = λ _.
    rests-done g.S.Shelf.store c.args.card.now (held c.args.self.now) c.args.line c.requires.line c.in-Some-link-2.number c.in-Some-link_rests.tei c.in-Some-link_rests.service c.in-Some-link-2.ensures.is
    c.of-in-Some-link_rests.result c.args.self.now.in_time c.of-in-Some-link_rests.ensures.most c.start-in-Some-link_rests.new.self c.args.orders.now c.of-in-Some-link_rests.ensures.is
    (c.start-in-Some-link_rests.ensures.after ∙ ap (λ i. with_timer i (T203 c.in-Some-link_rests.service c.in-Some-link_rests.tei) (c.args.self.now.moment + c.of-in-Some-link_rests.result) c.stop-in-Some-link_rests.new.self) c.slot-in-Some-link_rests-2.ensures
    ∙ ap (with_timer (slot_of c.args.self.now.terminals c.args.line c.in-Some-link-2.number link.T203) (T203 c.in-Some-link_rests.service c.in-Some-link_rests.tei) (c.args.self.now.moment + c.of-in-Some-link_rests.result))
    (c.stop-in-Some-link_rests.ensures.after ∙ ap (λ i. without_timer i c.exchange-in-Some-link_rests.new.self) c.slot-in-Some-link_rests.ensures
    ∙ ap (without_timer (slot_of c.args.self.now.terminals c.args.line c.in-Some-link-2.number link.T200)) (c.exchange-in-Some-link_rests.ensures.unchanged c.if-exchange-2.false)))
    c.in-Some-link_rests.ensures
