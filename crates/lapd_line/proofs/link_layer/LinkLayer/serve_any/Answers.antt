-- Hand-written answers for `LinkLayer::serve_any`.
use Rattle.lapd_line.proofs.Vocabulary.{places_of, Ok, drop, sym, ap, ◌∙◌, parts_of, message_of, at_side}
use Rattle.model_link.specs.Events as link
use Rattle.lapd_line.proofs.AddressSteps.{aimed, read_as, serves_none, message_sided, managed_sapi}
use Rattle.lapd_line.proofs.link_layer.LinkLayer.serve_any.Goals as goal

pub returns-in-Management : goal.returns-in-Management
returns-in-Management g c =
    read_as c.args.octets.now c.heard_side.result (Ok (parts_of c.in-Ok.frame)) c.heard_side.ensures c.in-Ok.ensures.reading
    (λ others m st. ap (at_side c.args.self.now.config (parts_of c.in-Ok.frame)) (aimed c.args.self.now (g.S.Shelf.store c.args.shelf.now) others m c.in-Ok.frame.address (link.frame (parts_of c.in-Ok.frame)) (message_of c.in-Ok.frame.control c.in-Ok.frame.info.now) _ c.in-Management.ensures.is st)
    ∙ message_sided c.args.self.now.config (parts_of c.in-Ok.frame) (managed_sapi (places_of c.args.self.now.teis) c.in-Ok.frame.address c.in-Management.ensures.is))
    (c.message.ensures c.args.octets.now)

pub returns-in-Link : goal.returns-in-Link
returns-in-Link g c =
    read_as c.args.octets.now c.heard_side.result (Ok (parts_of c.in-Ok.frame)) c.heard_side.ensures c.in-Ok.ensures.reading
    (λ others m st. ap (at_side c.args.self.now.config (parts_of c.in-Ok.frame)) (aimed c.args.self.now (g.S.Shelf.store c.args.shelf.now) others m c.in-Ok.frame.address (link.frame (parts_of c.in-Ok.frame)) (message_of c.in-Ok.frame.control c.in-Ok.frame.info.now) _ c.in-Link.ensures.is st))
    (c.receive_apart.ensures c.args.octets.now (c.in-Ok.ensures.tail ∙ ap (λ n. drop n c.args.octets.now) (sym c.start.ensures.value)))

pub returns-in-Nobody : goal.returns-in-Nobody
returns-in-Nobody g c =
    read_as c.args.octets.now c.heard_side.result (Ok (parts_of c.in-Ok.frame)) c.heard_side.ensures c.in-Ok.ensures.reading
    (λ others m st. ap (at_side c.args.self.now.config (parts_of c.in-Ok.frame)) (aimed c.args.self.now (g.S.Shelf.store c.args.shelf.now) others m c.in-Ok.frame.address (link.frame (parts_of c.in-Ok.frame)) (message_of c.in-Ok.frame.control c.in-Ok.frame.info.now) _ c.in-Nobody.ensures.is st))
    (serves_none c.args.self.now (g.S.Shelf.store c.args.shelf.now) c.args.octets.now c.for_nobody.new.report _ (c.for_nobody.ensures c.args.octets.now c.in-Ok.ensures.tail))

pub faulty-requires-clause-stands : goal.faulty-requires-clause-stands
faulty-requires-clause-stands g c = c.requires.stands

pub faulty-requires-clause-clear : goal.faulty-requires-clause-clear
faulty-requires-clause-clear g c = c.requires.clear

pub message-requires-clause-stands : goal.message-requires-clause-stands
message-requires-clause-stands g c = c.requires.stands

pub message-requires-clause-clear : goal.message-requires-clause-clear
message-requires-clause-clear g c = c.requires.clear
