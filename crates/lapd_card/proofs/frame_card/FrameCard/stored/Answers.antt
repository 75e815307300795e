-- Hand-written answers for `FrameCard::stored`.
use Rattle.lapd_card.proofs.Vocabulary.{◌∙◌, arith, held_in}
use Rattle.lapd_card.proofs.OneLine.{one_serves, one_says}
use Rattle.lapd_card.proofs.Amounts.{held_more, stored_is, stored_few, stored_within, call_of, of_machine, few_held, all_held, fits_32, fits_64}
use Rattle.lapd_card.proofs.frame_card.FrameCard.stored.Goals as goal

pub held-requires : goal.held-requires
held-requires g c =
    let (others, l, stands) = one_serves g.S.Shelf.store (call_of g.S.Shelf.store c.self.view_is c.self.invariant c.deref-line-items.ensures.value c.loop-line-test.true c.line-item.is) in
    (g.S.Shelf.store c.self.inside.shelf, others, l, stands)

pub overflow_add-held : goal.overflow_add-held
overflow_add-held g c = few_held g.S.Shelf.store c.self.view_is c.self.invariant c.deref-line-items.ensures.value c.loop-line.invariant.small (omega (arith, c.from-held.ensures, c.held.type_inv)) c.loop-line-test.true

pub loop-line-preserved : goal.loop-line-preserved
loop-line-preserved g c = record {
  exact = λ m s.
      held_more m.config m.lines c.loop-line.line-index _ _ (omega (arith, c.loop-line-test.true, (of_machine g.S.Shelf.store c.self.view_is c.self.invariant c.deref-line-items.ensures.value m s))) (c.loop-line.invariant.exact m s)
      (c.from-held.ensures ∙ one_says g.S.Shelf.store (call_of g.S.Shelf.store c.self.view_is c.self.invariant c.deref-line-items.ensures.value c.loop-line-test.true c.line-item.is) (λ d l. held_in d l) c.held.result (c.held.ensures.held _) m s);
  small = omega (arith, c.loop-line.invariant.small, c.from-held.ensures, c.held.type_inv);
}

pub returns-clause-octets : goal.returns-clause-octets
returns-clause-octets g c = stored_is g.S.Shelf.store c.self.view_is c.self.invariant (λ m s. c.loop-line.invariant.exact m s ∙ all_held g.S.Shelf.store c.self.view_is c.self.invariant c.deref-line-items.ensures.value c.loop-line-test.false m s) c.octets.ensures

pub returns-clause-few : goal.returns-clause-few
returns-clause-few g c = stored_within g.S.Shelf.store c.self.view_is c.self.invariant (λ m s. c.loop-line.invariant.exact m s ∙ all_held g.S.Shelf.store c.self.view_is c.self.invariant c.deref-line-items.ensures.value c.loop-line-test.false m s) c.octets.ensures

pub overflow_add-result : goal.overflow_add-result
overflow_add-result g c = fits_64 _ (stored_few g.S.Shelf.store c.self.view_is c.self.invariant (λ m s. c.loop-line.invariant.exact m s ∙ all_held g.S.Shelf.store c.self.view_is c.self.invariant c.deref-line-items.ensures.value c.loop-line-test.false m s) c.octets.ensures)

pub overflow_cast-result : goal.overflow_cast-result
overflow_cast-result g c = fits_32 _ (stored_few g.S.Shelf.store c.self.view_is c.self.invariant (λ m s. c.loop-line.invariant.exact m s ∙ all_held g.S.Shelf.store c.self.view_is c.self.invariant c.deref-line-items.ensures.value c.loop-line-test.false m s) c.octets.ensures)
