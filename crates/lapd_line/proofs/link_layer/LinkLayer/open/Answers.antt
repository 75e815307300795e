-- Hand-written answers for `LinkLayer::open`.
use Rattle.lapd_line.proofs.Vocabulary.{◌≡◌, set, subst, ◌∙◌, arith, get_or-set_other, Call, Packet, terms, LinksStand, terms_in}
use Rattle.model_link.specs.Link as machine
use Rattle.std.specs.Vec.{with_item}
use Rattle.lapd_line.proofs.LinkSteps.{in_vec, may_open, opened_stands, opened_terms}
use Rattle.lapd_line.proofs.TeiChangeSteps.{coming, joined, next_within}
use Rattle.lapd_line.proofs.link_layer.LinkLayer.open.Goals as goal

pub terms-requires : goal.terms-requires
terms-requires g c = let k = coming c.requires.changing c.requires.gained in record { range = k.range; tei = k.low }

pub index_mut-requires : goal.index_mut-requires
index_mut-requires g c = let k = coming c.requires.changing c.requires.gained in in_vec c.args.self.now.links (k.within Call c.link_number-call.ensures)

pub with_terms-requires : goal.with_terms-requires
with_terms-requires g c =
    let k = coming c.requires.changing c.requires.gained in
    let may = may_open (k.within Call c.link_number-call.ensures) c.index_mut.ensures.value k.stand (k.fresh Call c.link_number-call.ensures) c.terms.ensures.terms in
    record { range = c.terms.ensures.in_range; queue = may.queue; control = may.control; down = may.down }

pub terms-requires-2 : goal.terms-requires-2
terms-requires-2 g c = let k = coming c.requires.changing c.requires.gained in record { range = k.range; tei = k.low }

pub index_mut-requires-2 : goal.index_mut-requires-2
index_mut-requires-2 g c =
    let k = coming c.requires.changing c.requires.gained in in_vec (with_item c.args.self.now.links c.link_number-call.result c.with_terms.new.self) (next_within c.link_number-call.result c.with_terms.new.self k c.link_number-packet.ensures)

pub with_terms-requires-2 : goal.with_terms-requires-2
with_terms-requires-2 g c =
    let k = coming c.requires.changing c.requires.gained in
    let stand = opened_stands (k.within Call c.link_number-call.ensures) c.index_mut.ensures.value c.args.self.now.config Call c.args.tei c.terms.ensures.terms c.with_terms.ensures.terms c.with_terms.ensures.fresh
    (g.S.Shelf.store c.args.shelf.now) k.others k.ms k.stand in
    let fresh = get_or-set_other k.ms c.link_number-call.result c.link_number-packet.result machine.fresh machine.fresh (λ q. omega (arith, q, k.exact c.link_number-call.ensures, k.exact c.link_number-packet.ensures)) in
    let may = may_open (next_within c.link_number-call.result c.with_terms.new.self k c.link_number-packet.ensures) c.index_mut-2.ensures.value stand (fresh ∙ k.fresh Packet c.link_number-packet.ensures) c.terms-2.ensures.terms in
    record { range = c.terms-2.ensures.in_range; queue = may.queue; control = may.control; down = may.down }

pub returns : goal.returns
returns g c = λ what before octets is.
    let k = coming c.requires.changing c.requires.gained in
    let e = c.args.self.now in
    let s = g.S.Shelf.store c.args.shelf.now in
    let one = with_item e.links c.link_number-call.result c.with_terms.new.self in
    let two = with_item one c.link_number-packet.result c.with_terms-2.new.self in
    let call = k.exact c.link_number-call.ensures in
    let packet = k.exact c.link_number-packet.ensures in
    let within = k.within Call c.link_number-call.ensures in
    joined e before what c.args.told is s octets c.tell_management.new.report c.args.tei c.args.place one.items two c.requires.gained (c.tell_management.ensures.told octets)
    (subst (λ n. terms_in one.items ≡ set (terms_in e.links.items) n (terms e.config Call c.args.tei)) call (opened_terms e.links.items c.link_number-call.result c.with_terms.new.self (c.with_terms.ensures.terms ∙ c.terms.ensures.terms)))
    (subst (λ n. terms_in two.items ≡ set (terms_in one.items) n (terms e.config Packet c.args.tei)) packet (opened_terms one.items c.link_number-packet.result c.with_terms-2.new.self (c.with_terms-2.ensures.terms ∙ c.terms-2.ensures.terms)))
    (λ more ms h. subst (λ n. LinksStand e.config one.items s more (set ms n machine.fresh)) call (opened_stands within c.index_mut.ensures.value e.config Call c.args.tei c.terms.ensures.terms c.with_terms.ensures.terms c.with_terms.ensures.fresh s more ms h))
    (λ more ms h. subst (λ n. LinksStand e.config two.items s more (set ms n machine.fresh)) packet
    (opened_stands (next_within c.link_number-call.result c.with_terms.new.self k c.link_number-packet.ensures) c.index_mut-2.ensures.value e.config Packet c.args.tei c.terms-2.ensures.terms c.with_terms-2.ensures.terms c.with_terms-2.ensures.fresh s more ms h))
