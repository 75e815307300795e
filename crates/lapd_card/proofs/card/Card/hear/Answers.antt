-- Hand-written answers for `Card::hear`.
use Rattle.lapd_card.proofs.Vocabulary.{◌<◌, None, Some, IsSome, IfSome, refl, sym, ap, subst, latest_in, told_in}
use Rattle.model_card.specs.Event as frames
use Rattle.model_line.specs.Event as line
use Rattle.std.proofs.Common.{◌∙◌, option_map}
use Rattle.model_card.specs.ports.Card.{meant}
use Rattle.model_card.specs.ports.Event.{at}
use Rattle.model_card.specs.ports.Port as port
use Rattle.lapd_line.specs.Reports.{octets_of}
use Rattle.lapd_line.proofs.PortSteps.{nothing_heard, is_dropped}
use Rattle.lapd_card.specs.Called.{Called}
use Rattle.lapd_card.specs.Card.{line_count}
use Rattle.lapd_card.proofs.OnePort.{port-there, port-in, port_put, port_holds, seen, past_after, stood}
use Rattle.lapd_card.proofs.OneOctet.{Hears, if_hears, ended_something, octet_called, priced}
use Rattle.lapd_card.proofs.card.Card.hear.Goals as goal

pub index_mut-requires : goal.index_mut-requires
index_mut-requires g c = port-there g.S.Shelf.store _ c.args.self.now c.args.line _ c.self.invariant c.self.view_is c.requires c.self.inside.ports.ok.0

pub returns-in-Nothing-clause-called : goal.returns-in-Nothing-clause-called
returns-in-Nothing-clause-called g c = seen g.S.Shelf.store c.self.view_is (octet_called g.S.Shelf.store (record { past = c.self.invariant; within = (subst (λ d. c.args.line < line_count d) (sym c.self.view_is) c.requires); is = c.index_mut.ensures.value }) c.octet.ensures.gained c.octet.ensures.after None c.self.inside.frames (subst (λ h. Hears g.S.Shelf.store c.args.line h None c.self.inside.frames c.self.inside.frames) (sym (nothing_heard (latest_in c.octet.new.self) c.in-Nothing.ensures.told)) (refl, refl)))

pub invariant_of-self : goal.invariant_of-self
invariant_of-self g c = past_after g.S.Shelf.store (octet_called g.S.Shelf.store (record { past = c.self.invariant; within = (subst (λ d. c.args.line < line_count d) (sym c.self.view_is) c.requires); is = c.index_mut.ensures.value }) c.octet.ensures.gained c.octet.ensures.after None c.self.inside.frames (subst (λ h. Hears g.S.Shelf.store c.args.line h None c.self.inside.frames c.self.inside.frames) (sym (nothing_heard (latest_in c.octet.new.self) c.in-Nothing.ensures.told)) (refl, refl))) c.self.invariant

pub returns-in-Nothing-clause-frames : goal.returns-in-Nothing-clause-frames
returns-in-Nothing-clause-frames g c = λ m s. priced m (at c.args.line (port.octet c.args.octet)) s.reached (subst (λ d. c.args.line < d.lines) (sym s.frames.config) c.requires)

pub dropped-requires : goal.dropped-requires
dropped-requires g c = record { clear = c.nothing-bare.ensures; within = (subst (λ d. c.args.line < line_count d) (sym c.self.view_is) c.requires) }

pub returns-in-Dropped-clause-called : goal.returns-in-Dropped-clause-called
returns-in-Dropped-clause-called g c = seen g.S.Shelf.store c.self.view_is (octet_called g.S.Shelf.store (record { past = c.self.invariant; within = (subst (λ d. c.args.line < line_count d) (sym c.self.view_is) c.requires); is = c.index_mut.ensures.value }) c.octet.ensures.gained c.octet.ensures.after (Some c.dropped.new.report) c.dropped.new.self (subst (λ h. Hears g.S.Shelf.store c.args.line h (Some c.dropped.new.report) c.self.inside.frames c.dropped.new.self) (sym (is_dropped (latest_in c.octet.new.self) c.in-Dropped.cause c.in-Dropped.ensures.told)) c.dropped.ensures))

pub invariant_of-self-in-Dropped : goal.invariant_of-self-in-Dropped
invariant_of-self-in-Dropped g c = past_after g.S.Shelf.store (octet_called g.S.Shelf.store (record { past = c.self.invariant; within = (subst (λ d. c.args.line < line_count d) (sym c.self.view_is) c.requires); is = c.index_mut.ensures.value }) c.octet.ensures.gained c.octet.ensures.after (Some c.dropped.new.report) c.dropped.new.self (subst (λ h. Hears g.S.Shelf.store c.args.line h (Some c.dropped.new.report) c.self.inside.frames c.dropped.new.self) (sym (is_dropped (latest_in c.octet.new.self) c.in-Dropped.cause c.in-Dropped.ensures.told)) c.dropped.ensures)) c.self.invariant

pub returns-in-Dropped-clause-frames : goal.returns-in-Dropped-clause-frames
returns-in-Dropped-clause-frames g c = λ m s. priced m (at c.args.line (port.octet c.args.octet)) s.reached (subst (λ d. c.args.line < d.lines) (sym s.frames.config) c.requires)

pub index-requires : goal.index-requires
index-requires g c = port-there g.S.Shelf.store _ c.args.self.now c.args.line _ c.self.invariant c.self.view_is c.requires c.self.inside.ports.ok.0

pub heard-requires : goal.heard-requires
heard-requires g c = record { clear = c.nothing-bare-in-Frame.ensures; within = (subst (λ d. c.args.line < line_count d) (sym c.self.view_is) c.requires); something = subst (λ h. IsSome h) (sym (ap latest_in (port_put c.self.inside.ports.items c.args.line c.octet.new.self c.index.result.now (port-in g.S.Shelf.store c.self.invariant c.self.view_is c.requires) c.index.ensures))) (ended_something (latest_in c.octet.new.self) c.octet.ensures.told c.in-Frame.is) }

pub returns-in-Frame-clause-called : goal.returns-in-Frame-clause-called
returns-in-Frame-clause-called g c = seen g.S.Shelf.store c.self.view_is (octet_called g.S.Shelf.store (record { past = c.self.invariant; within = (subst (λ d. c.args.line < line_count d) (sym c.self.view_is) c.requires); is = c.index_mut.ensures.value }) c.octet.ensures.gained c.octet.ensures.after (Some c.heard.new.report) c.heard.new.self (if_hears g.S.Shelf.store c.args.line c.heard.new.report c.self.inside.frames c.heard.new.self (latest_in c.octet.new.self) (ended_something (latest_in c.octet.new.self) c.octet.ensures.told c.in-Frame.is) (subst (λ h. IfSome h (λ e. Called g.S.Shelf.store (frames.at c.args.line (line.hears e)) (line.told (told_in (octets_of h) c.heard.new.report)) c.self.inside.frames c.heard.new.self)) (ap latest_in (port_put c.self.inside.ports.items c.args.line c.octet.new.self c.index.result.now (port-in g.S.Shelf.store c.self.invariant c.self.view_is c.requires) c.index.ensures)) c.heard.ensures)))

pub invariant_of-self-in-Frame : goal.invariant_of-self-in-Frame
invariant_of-self-in-Frame g c = past_after g.S.Shelf.store (octet_called g.S.Shelf.store (record { past = c.self.invariant; within = (subst (λ d. c.args.line < line_count d) (sym c.self.view_is) c.requires); is = c.index_mut.ensures.value }) c.octet.ensures.gained c.octet.ensures.after (Some c.heard.new.report) c.heard.new.self (if_hears g.S.Shelf.store c.args.line c.heard.new.report c.self.inside.frames c.heard.new.self (latest_in c.octet.new.self) (ended_something (latest_in c.octet.new.self) c.octet.ensures.told c.in-Frame.is) (subst (λ h. IfSome h (λ e. Called g.S.Shelf.store (frames.at c.args.line (line.hears e)) (line.told (told_in (octets_of h) c.heard.new.report)) c.self.inside.frames c.heard.new.self)) (ap latest_in (port_put c.self.inside.ports.items c.args.line c.octet.new.self c.index.result.now (port-in g.S.Shelf.store c.self.invariant c.self.view_is c.requires) c.index.ensures)) c.heard.ensures))) c.self.invariant

pub returns-in-Frame-clause-frames : goal.returns-in-Frame-clause-frames
returns-in-Frame-clause-frames g c = λ m s. priced m (at c.args.line (port.octet c.args.octet)) s.reached (subst (λ d. c.args.line < d.lines) (sym s.frames.config) c.requires)

pub returns-in-Nothing-clause-silent : goal.returns-in-Nothing-clause-silent
unfolding meant
returns-in-Nothing-clause-silent g c = λ m s.
    ap (λ h. option_map (frames.at c.args.line) (option_map line.hears h))
    (c.octet.ensures.gained _ _ (port_holds g.S.Shelf.store (record { past = c.self.invariant; within = (subst (λ d. c.args.line < line_count d) (sym c.self.view_is) c.requires); is = c.index_mut.ensures.value }) m (stood g.S.Shelf.store c.self.view_is m s))
    ∙ nothing_heard (latest_in c.octet.new.self) c.in-Nothing.ensures.told)
