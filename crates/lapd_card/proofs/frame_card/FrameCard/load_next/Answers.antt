-- Hand-written answers for `FrameCard::load_next`.
use Rattle.lapd_card.proofs.Vocabulary.{sym, ap, ◌∙◌, IsLoaded, orders_taken}
use Rattle.model_line.specs.Event.{next}
use Rattle.lapd_card.proofs.OneLine.{few_line, line-there, one_serves, has_config}
use Rattle.lapd_card.proofs.OneEvent.{past_after, event_leads, event_says}
use Rattle.lapd_card.proofs.Served.{next_takes}
use Rattle.lapd_card.proofs.frame_card.FrameCard.load_next.Goals as goal

pub index_mut-frame_line-requires : goal.index_mut-frame_line-requires
index_mut-frame_line-requires g c = line-there g.S.Shelf.store _ c.args.self.now c.args.line _ c.self.invariant c.self.view_is c.requires.within c.self.inside.lines.ok.0

pub load_next-orders-requires : goal.load_next-orders-requires
load_next-orders-requires g c = record {
  stands = one_serves g.S.Shelf.store (record { past = c.self.invariant; same = c.self.view_is; within = c.requires.within; is = c.index_mut-frame_line.ensures.value });
  few = c.requires.few;
  room = c.requires.room ∙ ap (λ d. d.n201) (sym (has_config g.S.Shelf.store (record { past = c.self.invariant; same = c.self.view_is; within = c.requires.within; is = c.index_mut-frame_line.ensures.value })));
}

pub invariant_of-self : goal.invariant_of-self
invariant_of-self g c = past_after g.S.Shelf.store c.self.view_is (event_leads g.S.Shelf.store (record { past = c.self.invariant; same = c.self.view_is; within = c.requires.within; is = c.index_mut-frame_line.ensures.value }) next next_takes c.load_next-orders.ensures.after (record { told = c.has_next.result; says = c.has_next.ensures; sets = c.set.ensures })) c.self.invariant

pub returns-clause-loaded : goal.returns-clause-loaded
returns-clause-loaded g c = event_says g.S.Shelf.store (record { past = c.self.invariant; same = c.self.view_is; within = c.requires.within; is = c.index_mut-frame_line.ensures.value }) next next_takes (λ a. IsLoaded a (orders_taken c.load_next-orders.result) c.args.port.now c.load_next-orders.new.port) c.load_next-orders.ensures.loaded

pub returns-clause-after : goal.returns-clause-after
returns-clause-after g c = event_leads g.S.Shelf.store (record { past = c.self.invariant; same = c.self.view_is; within = c.requires.within; is = c.index_mut-frame_line.ensures.value }) next next_takes c.load_next-orders.ensures.after (record { told = c.has_next.result; says = c.has_next.ensures; sets = c.set.ensures })

pub set-requires : goal.set-requires
set-requires g c = few_line g.S.Shelf.store c.self.invariant c.self.view_is c.requires.within
