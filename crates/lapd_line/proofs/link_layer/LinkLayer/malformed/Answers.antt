-- Hand-written answers for `LinkLayer::malformed`.
use Rattle.lapd_line.proofs.Vocabulary.{◌∙◌, Unserved, received_of, drop_for}
use Rattle.lapd_line.proofs.AddressSteps.{aimed, serves_as, serves_none, nothing_after}
use Rattle.lapd_line.proofs.link_layer.LinkLayer.malformed.Goals as goal

pub returns-in-Management : goal.returns-in-Management
returns-in-Management g c = λ octets short.
    serves_as (λ others m st. aimed c.args.self.now (g.S.Shelf.store c.args.shelf.now) others m c.args.address (received_of c.args.received) (drop_for Unserved) _ c.in-Management.ensures.is st)
    (serves_none c.args.self.now (g.S.Shelf.store c.args.shelf.now) octets c.tell_drop.new.report _ (c.tell_drop.ensures octets))

pub returns-in-Link : goal.returns-in-Link
returns-in-Link g c = λ octets short.
    serves_as (λ others m st. aimed c.args.self.now (g.S.Shelf.store c.args.shelf.now) others m c.args.address (received_of c.args.received) (drop_for Unserved) _ c.in-Link.ensures.is st)
    (c.receive_apart.ensures octets (c.requires.no_frame ∙ nothing_after octets c.args.len short))

pub returns-in-Nobody : goal.returns-in-Nobody
returns-in-Nobody g c = λ octets short.
    serves_as (λ others m st. aimed c.args.self.now (g.S.Shelf.store c.args.shelf.now) others m c.args.address (received_of c.args.received) (drop_for Unserved) _ c.in-Nobody.ensures.is st)
    (serves_none c.args.self.now (g.S.Shelf.store c.args.shelf.now) octets c.tell_drop-in-Nobody.new.report _ (c.tell_drop-in-Nobody.ensures octets))
