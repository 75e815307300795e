-- Hand-written answers for `LinkLayer::take_first`.
use Rattle.lapd_line.proofs.Vocabulary.{None, Some, sym, subst, first_taken, round, Takes, orders_taken}
use Rattle.lapd_line.proofs.PullTakesRound.{first_marked, first_of_links, first_within, round_none, round_some}
use Rattle.lapd_line.proofs.link_layer.LinkLayer.take_first.Goals as goal

pub take_link-requires-clause-within : goal.take_link-requires-clause-within
take_link-requires-clause-within g c = first_within c.args.self.now (g.S.Shelf.store c.args.shelf.now) (Some c.in_ok-number.number) c.requires.stands c.in_ok-number.ensures

pub take_link-requires-clause-has_frame : goal.take_link-requires-clause-has_frame
take_link-requires-clause-has_frame g c = first_marked c.args.self.now (Some c.in_ok-number.number) c.in_ok-number.ensures

pub returns-in_err-number : goal.returns-in_err-number
returns-in_err-number g c =
    let s = g.S.Shelf.store c.args.shelf.now in
    let f = g.O.Outlet.loading c.args.out.now in
    subst (λ r. Takes (λ c m. first_taken c m (round c m)) c.args.self.now s f c.args.self.now s f (orders_taken r)) (sym c.from_residual.ensures)
    (round_none c.args.self.now s f c.requires.stands (first_of_links c.args.self.now s None c.requires.stands c.in_err-number.ensures))

pub returns : goal.returns
returns g c =
    let s = g.S.Shelf.store c.args.shelf.now in
    round_some c.args.self.now s c.in_ok-number.number c.take_link.result c.requires.stands c.take_link.ensures.given (first_of_links c.args.self.now s (Some c.in_ok-number.number) c.requires.stands c.in_ok-number.ensures) c.take_link.ensures.taken
