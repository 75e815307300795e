-- Hand-written answers for `Card::pull`.
use Rattle.lapd_card.proofs.Vocabulary.{◌<◌, length, refl, sym, subst, slice_get, IfSome, port_at}
use Rattle.model_card.specs.ports.Event.{at}
use Rattle.model_card.specs.ports.Port as port
use Rattle.lapd_card.specs.Card.{line_count}
use Rattle.lapd_card.proofs.OnePort.{port-there, port-in, to_place, port_holds, seen, past_after}
use Rattle.lapd_card.proofs.OneOctet.{priced, not_due, quiet, none_called}
use Rattle.lapd_card.proofs.Waiting.{nothing_waits_at}
use Rattle.lapd_card.proofs.card.Card.pull.Goals as goal

pub index-requires : goal.index-requires
index-requires g c = port-there g.S.Shelf.store _ c.args.self.now c.args.line _ c.self.invariant c.self.view_is c.requires c.self.inside.ports.ok.0

pub index_mut-requires : goal.index_mut-requires
index_mut-requires g c = port-there g.S.Shelf.store _ c.args.self.now c.args.line _ c.self.invariant c.self.view_is c.requires c.self.inside.ports.ok.0

pub index_mut-requires-then-not-has_next : goal.index_mut-requires-then-not-has_next
index_mut-requires-then-not-has_next g c = port-there g.S.Shelf.store _ c.args.self.now c.args.line _ c.self.invariant c.self.view_is c.requires c.self.inside.ports.ok.0

pub returns-then-not-is_due-clause-called : goal.returns-then-not-is_due-clause-called
returns-then-not-is_due-clause-called g c = seen g.S.Shelf.store c.self.view_is (none_called g.S.Shelf.store (record { past = c.self.invariant; within = (subst (λ d. c.args.line < line_count d) (sym c.self.view_is) c.requires); is = c.index_mut.ensures.value }) c.give.ensures (λ m s. not_due m c.args.line (sym (c.if-not-is_due.ensures.due m.card.config.n201 (port_at c.args.line m) (port_holds g.S.Shelf.store (record { past = c.self.invariant; within = (subst (λ d. c.args.line < line_count d) (sym c.self.view_is) c.requires); is = c.index.ensures }) m s)))))

pub invariant_of-self : goal.invariant_of-self
invariant_of-self g c = past_after g.S.Shelf.store (none_called g.S.Shelf.store (record { past = c.self.invariant; within = (subst (λ d. c.args.line < line_count d) (sym c.self.view_is) c.requires); is = c.index_mut.ensures.value }) c.give.ensures (λ m s. not_due m c.args.line (sym (c.if-not-is_due.ensures.due m.card.config.n201 (port_at c.args.line m) (port_holds g.S.Shelf.store (record { past = c.self.invariant; within = (subst (λ d. c.args.line < line_count d) (sym c.self.view_is) c.requires); is = c.index.ensures }) m s))))) c.self.invariant

pub returns-then-not-has_next-clause-called : goal.returns-then-not-has_next-clause-called
returns-then-not-has_next-clause-called g c = seen g.S.Shelf.store c.self.view_is (none_called g.S.Shelf.store (record { past = c.self.invariant; within = (subst (λ d. c.args.line < line_count d) (sym c.self.view_is) c.requires); is = c.index_mut-then-not-has_next.ensures.value }) c.give-then-not-has_next.ensures (λ m s. quiet m c.args.line (nothing_waits_at c.args.line m.card (subst (λ d. c.args.line < d.lines) (sym s.frames.config) (subst (λ d. c.args.line < line_count d) (sym c.self.view_is) c.requires)) (c.if-not-has_next.ensures m.card s.frames))))

pub invariant_of-self-then-not-has_next : goal.invariant_of-self-then-not-has_next
invariant_of-self-then-not-has_next g c = past_after g.S.Shelf.store (none_called g.S.Shelf.store (record { past = c.self.invariant; within = (subst (λ d. c.args.line < line_count d) (sym c.self.view_is) c.requires); is = c.index_mut-then-not-has_next.ensures.value }) c.give-then-not-has_next.ensures (λ m s. quiet m c.args.line (nothing_waits_at c.args.line m.card (subst (λ d. c.args.line < d.lines) (sym s.frames.config) (subst (λ d. c.args.line < line_count d) (sym c.self.view_is) c.requires)) (c.if-not-has_next.ensures m.card s.frames)))) c.self.invariant

pub pull_next-requires-clause-few : goal.pull_next-requires-clause-few
pull_next-requires-clause-few g c =
    subst (λ d. IfSome (slice_get d.ports c.args.line) (λ port. length port.framer.left < 8)) c.self.view_is
    (to_place c.self.inside.ports.items c.args.line c.index.result.now (λ port. length port.framer.left < 8) (port-in g.S.Shelf.store c.self.invariant c.self.view_is c.requires) c.index.ensures (c.if-not-is_due.ensures.few refl))

pub returns-then-not-is_due-clause-frames : goal.returns-then-not-is_due-clause-frames
returns-then-not-is_due-clause-frames g c = λ m s. priced m (at c.args.line port.pull) s.reached (subst (λ d. c.args.line < d.lines) (sym s.frames.config) c.requires)

pub returns-then-not-has_next-clause-frames : goal.returns-then-not-has_next-clause-frames
returns-then-not-has_next-clause-frames g c = λ m s. priced m (at c.args.line port.pull) s.reached (subst (λ d. c.args.line < d.lines) (sym s.frames.config) c.requires)

pub returns-clause-frames : goal.returns-clause-frames
returns-clause-frames g c = λ m s. priced m (at c.args.line port.pull) s.reached (subst (λ d. c.args.line < d.lines) (sym s.frames.config) c.requires)
