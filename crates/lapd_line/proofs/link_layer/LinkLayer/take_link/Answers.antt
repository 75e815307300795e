-- Hand-written answers for `LinkLayer::take_link`.
use Rattle.lapd_line.proofs.Vocabulary.{[], None, IfSome, IsUsed, arith, length-set, subst, false≢true}
use Rattle.std.specs.Vec.{with_item}
use Rattle.lapd_line.proofs.LayerSteps.{link_within, links_standing}
use Rattle.lapd_line.proofs.LinkSteps.{in_vec, offers, part_stands}
use Rattle.lapd_line.proofs.PullTakesLinks.{awake_offers, given_used, can_send, link_sent, no_contents, its_contents}
use Rattle.lapd_line.proofs.link_layer.LinkLayer.take_link.Goals as goal

pub index_mut-requires : goal.index_mut-requires
index_mut-requires g c = in_vec c.args.self.now.links (link_within c.requires.stands c.requires.within)

pub offer-requires : goal.offer-requires
offer-requires g c =
    let (others, m, st) = part_stands (link_within c.requires.stands c.requires.within) c.index_mut.ensures.value (links_standing c.requires.stands) in
    (g.S.Shelf.store c.args.shelf.now, others, m, st)

pub returns-in_err-offer : goal.returns-in_err-offer
returns-in_err-offer g c =
    let o = c.in_err-offer.ensures in
    let offered = offers (link_within c.requires.stands c.requires.within) c.index_mut.ensures.value o.stands o.given o.frame o.slot o.used o.terms in
    absurd (false≢true (awake_offers c.args.self.now (g.S.Shelf.store c.args.shelf.now) c.args.number _ None c.requires.within c.requires.stands c.requires.has_frame offered))

pub send-requires-clause-within : goal.send-requires-clause-within
send-requires-clause-within g c = omega (arith, link_within c.requires.stands c.requires.within, length-set c.args.self.now.links.items c.args.number c.offer.new.self)

pub send-requires-clause-frame : goal.send-requires-clause-frame
send-requires-clause-frame g c =
    let o = c.in_ok-offer.ensures in
    let offered = offers (link_within c.requires.stands c.requires.within) c.index_mut.ensures.value o.stands o.given o.frame o.slot o.used o.terms in
    (can_send c.args.self.now (g.S.Shelf.store c.args.shelf.now) c.args.number _ c.in_ok-offer.offer _ c.requires.within c.requires.stands offered (no_contents (g.S.Shelf.store c.args.shelf.now) c.in_ok-offer.offer.contents c.in-None.is)).frame

pub get-requires : goal.get-requires
get-requires g c =
    let o = c.in_ok-offer.ensures in
    let offered = offers (link_within c.requires.stands c.requires.within) c.index_mut.ensures.value o.stands o.given o.frame o.slot o.used o.terms in
    subst (λ slot. IfSome slot (IsUsed (g.S.Shelf.store c.args.shelf.now))) c.in-Some.is
    (given_used c.args.self.now (g.S.Shelf.store c.args.shelf.now) c.args.number _ c.in_ok-offer.offer c.requires.within c.requires.stands offered)

pub send-requires-in-Some-clause-within : goal.send-requires-in-Some-clause-within
send-requires-in-Some-clause-within g c = omega (arith, link_within c.requires.stands c.requires.within, length-set c.args.self.now.links.items c.args.number c.offer.new.self)

pub send-requires-in-Some-clause-frame : goal.send-requires-in-Some-clause-frame
send-requires-in-Some-clause-frame g c =
    let o = c.in_ok-offer.ensures in
    let offered = offers (link_within c.requires.stands c.requires.within) c.index_mut.ensures.value o.stands o.given o.frame o.slot o.used o.terms in
    (can_send c.args.self.now (g.S.Shelf.store c.args.shelf.now) c.args.number _ c.in_ok-offer.offer _ c.requires.within c.requires.stands offered
    (its_contents (g.S.Shelf.store c.args.shelf.now) c.in_ok-offer.offer.contents c.in-Some.slot _ c.in-Some.is c.get.ensures.octets)).frame

pub send-requires-in-Some-clause-info : goal.send-requires-in-Some-clause-info
send-requires-in-Some-clause-info g c =
    let o = c.in_ok-offer.ensures in
    let offered = offers (link_within c.requires.stands c.requires.within) c.index_mut.ensures.value o.stands o.given o.frame o.slot o.used o.terms in
    let can = can_send c.args.self.now (g.S.Shelf.store c.args.shelf.now) c.args.number _ c.in_ok-offer.offer c.get.result.now c.requires.within c.requires.stands offered
    (its_contents (g.S.Shelf.store c.args.shelf.now) c.in_ok-offer.offer.contents c.in-Some.slot _ c.in-Some.is c.get.ensures.octets) in
    omega (arith, can.size, c.requires.room)

pub returns-in-None-clause-taken : goal.returns-in-None-clause-taken
returns-in-None-clause-taken g c =
    let o = c.in_ok-offer.ensures in
    let offered = offers (link_within c.requires.stands c.requires.within) c.index_mut.ensures.value o.stands o.given o.frame o.slot o.used o.terms in
    link_sent c.args.self.now (g.S.Shelf.store c.args.shelf.now) (g.O.Outlet.loading c.args.out.now) (g.O.Outlet.loading c.send.new.out) c.args.number (with_item c.args.self.now.links c.args.number c.offer.new.self) c.in_ok-offer.offer [] c.send.new.self c.requires.within
    c.send.ensures.has_frame c.send.ensures.rest offered (no_contents (g.S.Shelf.store c.args.shelf.now) c.in_ok-offer.offer.contents c.in-None.is) c.send.ensures.room c.send.ensures.reference c.send.ensures.loaded

pub returns-in-Some-clause-taken : goal.returns-in-Some-clause-taken
returns-in-Some-clause-taken g c =
    let o = c.in_ok-offer.ensures in
    let offered = offers (link_within c.requires.stands c.requires.within) c.index_mut.ensures.value o.stands o.given o.frame o.slot o.used o.terms in
    link_sent c.args.self.now (g.S.Shelf.store c.args.shelf.now) (g.O.Outlet.loading c.args.out.now) (g.O.Outlet.loading c.send-in-Some.new.out) c.args.number (with_item c.args.self.now.links c.args.number c.offer.new.self) c.in_ok-offer.offer c.get.result.now c.send-in-Some.new.self c.requires.within
    c.send-in-Some.ensures.has_frame c.send-in-Some.ensures.rest offered (its_contents (g.S.Shelf.store c.args.shelf.now) c.in_ok-offer.offer.contents c.in-Some.slot c.get.result.now c.in-Some.is c.get.ensures.octets)
    c.send-in-Some.ensures.room c.send-in-Some.ensures.reference c.send-in-Some.ensures.loaded
