-- Hand-written answers for `Card::stored`.
use Rattle.lapd_card.proofs.Vocabulary.{◌+◌, ◌≤◌, ap, ◌∙◌, arith, port_at}
use Rattle.model_card.specs.Stored as cards
use Rattle.lapd_card.proofs.OnePort.{port_holds, stood, inside}
use Rattle.lapd_card.proofs.OctetAmounts.{held_more, narrow, frames_small, call_of, of_machine, few_held, all_held}
use Rattle.lapd_card.proofs.card.Card.stored.Goals as goal

pub held-held-requires : goal.held-held-requires
held-held-requires g c =
    let (m, s) = c.self.invariant in
    let call = call_of g.S.Shelf.store c.self.view_is c.self.invariant c.deref-port-items.ensures.value c.loop-port-test.true c.port-item.is in
    (m.card.config.n201, omega (arith, ap (λ d. d.n201) s.frames.config, narrow g.S.Shelf.store c.self.view_is c.self.invariant), (port_at c.loop-port.port-index m, port_holds g.S.Shelf.store call m s))

pub overflow_add-held : goal.overflow_add-held
overflow_add-held g c =
    let (m, s) = c.self.invariant in
    let call = call_of g.S.Shelf.store c.self.view_is c.self.invariant c.deref-port-items.ensures.value c.loop-port-test.true c.port-item.is in
    let few = c.held-held.ensures.few m.card.config.n201 (port_at c.loop-port.port-index m) (port_holds g.S.Shelf.store call m s) in
    let short : c.held-held.result ≤ 530 = omega (arith, few, ap (λ d. d.n201) s.frames.config, narrow g.S.Shelf.store c.self.view_is c.self.invariant) in
    few_held g.S.Shelf.store c.self.view_is c.self.invariant c.deref-port-items.ensures.value c.loop-port.invariant.small short c.loop-port-test.true

pub loop-port-init : goal.loop-port-init
loop-port-init g c = record {
  exact = λ m s. let is = inside g.S.Shelf.store c.self.view_is c.stored-held.ensures.octets m s in omega (arith, is);
  small = frames_small g.S.Shelf.store c.self.view_is c.self.invariant c.stored-held.ensures.few;
}

pub loop-port-preserved : goal.loop-port-preserved
loop-port-preserved g c =
    let (m, s) = c.self.invariant in
    let call = call_of g.S.Shelf.store c.self.view_is c.self.invariant c.deref-port-items.ensures.value c.loop-port-test.true c.port-item.is in
    let few = c.held-held.ensures.few m.card.config.n201 (port_at c.loop-port.port-index m) (port_holds g.S.Shelf.store call m s) in
    let short : c.held-held.result ≤ 530 = omega (arith, few, ap (λ d. d.n201) s.frames.config, narrow g.S.Shelf.store c.self.view_is c.self.invariant) in
    record {
      exact = λ m s.
          let there = stood g.S.Shelf.store c.self.view_is m s in
          held_more m.card.config.n201 m.ports c.loop-port.port-index (cards.stored m.card) (omega (arith, c.loop-port-test.true, of_machine g.S.Shelf.store c.self.view_is c.self.invariant c.deref-port-items.ensures.value m there)) (c.loop-port.invariant.exact m s)
          (c.held-held.ensures.held m.card.config.n201 (port_at c.loop-port.port-index m) (port_holds g.S.Shelf.store call m there));
      small = omega (arith, c.loop-port.invariant.small, short);
    }

pub returns : goal.returns
returns g c = λ m s. c.loop-port.invariant.exact m s ∙ ap (λ n. cards.stored m.card + n) (all_held g.S.Shelf.store c.self.view_is c.self.invariant c.deref-port-items.ensures.value c.loop-port-test.false m (stood g.S.Shelf.store c.self.view_is m s))
