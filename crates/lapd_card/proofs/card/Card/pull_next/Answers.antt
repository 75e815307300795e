-- Hand-written answers for `Card::pull_next`.
use Rattle.lapd_card.proofs.Vocabulary.{◌<◌, length, sym, subst, slice_get, IfSome}
use Rattle.lapd_card.specs.Card.{line_count}
use Rattle.lapd_card.proofs.OnePort.{port-there, port-in, at_place, port_put, put_twice, room_at, seen, past_after}
use Rattle.lapd_card.proofs.OneOctet.{Gives, next_called}
use Rattle.lapd_card.proofs.card.Card.pull_next.Goals as goal

pub index_mut-requires : goal.index_mut-requires
index_mut-requires g c = port-there g.S.Shelf.store _ c.args.self.now c.args.line _ c.self.invariant c.self.view_is c.requires.within c.self.inside.ports.ok.0

pub load_next-orders-requires : goal.load_next-orders-requires
load_next-orders-requires g c = record {
  within = (subst (λ d. c.args.line < line_count d) (sym c.self.view_is) c.requires.within);
  few = (at_place c.self.inside.ports.items c.args.line c.index_mut.result.now (λ port. length port.framer.left < 8) (port-in g.S.Shelf.store c.self.invariant c.self.view_is c.requires.within) c.index_mut.ensures.value (subst (λ d. IfSome (slice_get d.ports c.args.line) (λ port. length port.framer.left < 8)) (sym c.self.view_is) c.requires.few));
  room = room_at g.S.Shelf.store (record { past = c.self.invariant; within = (subst (λ d. c.args.line < line_count d) (sym c.self.view_is) c.requires.within); is = c.index_mut.ensures.value });
}

pub index_mut-requires-2 : goal.index_mut-requires-2
index_mut-requires-2 g c = port-there g.S.Shelf.store _ c.args.self.now c.args.line _ c.self.invariant c.self.view_is c.requires.within c.self.inside.ports.ok.0

pub invariant_of-self : goal.invariant_of-self
invariant_of-self g c = past_after g.S.Shelf.store (put_twice g.S.Shelf.store c.self.inside.ports.items c.args.line c.load_next-orders.new.port c.give.new.self (next_called g.S.Shelf.store (record { past = c.self.invariant; within = (subst (λ d. c.args.line < line_count d) (sym c.self.view_is) c.requires.within); is = c.index_mut.ensures.value }) c.load_next-orders.result (at_place c.self.inside.ports.items c.args.line c.index_mut.result.now (λ port. length port.framer.left < 8) (port-in g.S.Shelf.store c.self.invariant c.self.view_is c.requires.within) c.index_mut.ensures.value (subst (λ d. IfSome (slice_get d.ports c.args.line) (λ port. length port.framer.left < 8)) (sym c.self.view_is) c.requires.few)) c.load_next-orders.ensures.loaded c.load_next-orders.ensures.after (subst (λ port. Gives port c.load_next-orders.result c.give.result c.give.new.self) (port_put c.self.inside.ports.items c.args.line c.load_next-orders.new.port c.index_mut-2.result.now (port-in g.S.Shelf.store c.self.invariant c.self.view_is c.requires.within) c.index_mut-2.ensures.value) c.give.ensures))) c.self.invariant

pub returns : goal.returns
returns g c = seen g.S.Shelf.store c.self.view_is (put_twice g.S.Shelf.store c.self.inside.ports.items c.args.line c.load_next-orders.new.port c.give.new.self (next_called g.S.Shelf.store (record { past = c.self.invariant; within = (subst (λ d. c.args.line < line_count d) (sym c.self.view_is) c.requires.within); is = c.index_mut.ensures.value }) c.load_next-orders.result (at_place c.self.inside.ports.items c.args.line c.index_mut.result.now (λ port. length port.framer.left < 8) (port-in g.S.Shelf.store c.self.invariant c.self.view_is c.requires.within) c.index_mut.ensures.value (subst (λ d. IfSome (slice_get d.ports c.args.line) (λ port. length port.framer.left < 8)) (sym c.self.view_is) c.requires.few)) c.load_next-orders.ensures.loaded c.load_next-orders.ensures.after (subst (λ port. Gives port c.load_next-orders.result c.give.result c.give.new.self) (port_put c.self.inside.ports.items c.args.line c.load_next-orders.new.port c.index_mut-2.result.now (port-in g.S.Shelf.store c.self.invariant c.self.view_is c.requires.within) c.index_mut-2.ensures.value) c.give.ensures)))
