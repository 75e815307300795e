-- Hand-written answers for `LinkLayer::send`.
use Rattle.lapd_line.proofs.Vocabulary.{[], refl, sym, ap, subst, ◌∙◌, IsFrame, Loads, own_side, spelling}
use Rattle.model_link.specs.Link.{address_at}
use Rattle.lapd_line.proofs.LinkSteps.{in_vec, tells, terms_at}
use Rattle.lapd_line.proofs.link_layer.LinkLayer.send.Goals as goal

pub index-link-requires : goal.index-link-requires
index-link-requires g c = in_vec c.args.self.now.links c.requires.within

pub set-requires : goal.set-requires
set-requires g c = c.requires.low

pub load-requires-clause-free : goal.load-requires-clause-free
load-requires-clause-free g c = c.requires.free

pub load-requires-clause-frame : goal.load-requires-clause-frame
load-requires-clause-frame g c =
    let (terms, has, is) = c.requires.frame in
    let at = terms_at c.args.self.now.links.items c.args.number _ terms c.requires.within c.index-link.ensures has in
    subst (λ a. IsFrame (record { address = a; control = c.args.frame.control; info = [] })) (sym (c.address-address.ensures ∙ ap (λ t. address_at t c.args.frame.command) at)) is

pub load-requires-clause-info : goal.load-requires-clause-info
load-requires-clause-info g c = c.requires.info

pub returns-clause-has_frame : goal.returns-clause-has_frame
returns-clause-has_frame g c = (c.has_frame.result, tells c.requires.within c.index-link.ensures c.has_frame.ensures, c.set.ensures)

pub returns-clause-rest : goal.returns-clause-rest
returns-clause-rest g c = refl

pub returns-clause-room : goal.returns-clause-room
returns-clause-room g c = c.load.ensures.room

pub returns-clause-reference : goal.returns-clause-reference
returns-clause-reference g c = c.load.ensures.reference

pub returns-clause-loaded : goal.returns-clause-loaded
returns-clause-loaded g c = λ terms has.
    let at = terms_at c.args.self.now.links.items c.args.number _ terms c.requires.within c.index-link.ensures has in
    subst (λ a. Loads (spelling (own_side c.args.self.now.config) (record { address = a; control = c.args.frame.control; info = c.args.info.now })) (g.O.Outlet.loading c.args.out.now) (g.O.Outlet.loading c.load.new.out))
    (c.address-address.ensures ∙ ap (λ t. address_at t c.args.frame.command) at)
    (subst (λ side. Loads (spelling side (record { address = c.address-address.result; control = c.args.frame.control; info = c.args.info.now })) (g.O.Outlet.loading c.args.out.now) (g.O.Outlet.loading c.load.new.out)) c.own_side.ensures
    c.load.ensures.loaded)
