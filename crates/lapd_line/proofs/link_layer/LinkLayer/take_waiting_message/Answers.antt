-- Hand-written answers for `LinkLayer::take_waiting_message`.
use Rattle.lapd_line.proofs.Vocabulary.{Some, message_taken, Takes, orders_taken, sym, subst}
use Rattle.lapd_line.proofs.MessageTakes.{message_loaded, no_message_loaded}
use Rattle.lapd_line.proofs.link_layer.LinkLayer.take_waiting_message.Goals as goal

pub returns-in_err-octets : goal.returns-in_err-octets
returns-in_err-octets g c = λ store.
    let e = c.args.self.now in
    let f = g.O.Outlet.loading c.args.out.now in
    subst (λ r. Takes (λ c' m. message_taken c' m) e store f (record e { teis = c.offer.new.self }) store f (orders_taken r)) (sym c.from_residual.ensures)
    (no_message_loaded e store c.offer.new.self f f c.in_err-octets.ensures)

pub returns : goal.returns
returns g c = λ store.
    let e = c.args.self.now in
    let f = g.O.Outlet.loading c.args.out.now in
    let h = g.O.Outlet.loading c.load_message.new.out in
    subst (λ o. Takes (λ c' m. message_taken c' m) e store f (record e { teis = c.offer.new.self }) store h (Some o)) (sym c.none.ensures)
    (message_loaded e store c.offer.new.self f h c.in_ok-octets.ensures c.load_message.ensures.room c.load_message.ensures.reference c.load_message.ensures.loaded)
