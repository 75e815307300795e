-- Hand-written answers for `LinkLayer::change`.
use Rattle.lapd_line.proofs.TeiChangeSteps.{unmoved}
use Rattle.lapd_line.proofs.link_layer.LinkLayer.change.Goals as goal

pub returns-in-None : goal.returns-in-None
returns-in-None g c = λ e before octets is.
    unmoved c.args.self.now before e c.args.told is (g.S.Shelf.store c.args.shelf.now) octets c.tell_management.new.report c.in-None.is (c.tell_management.ensures.told octets)
