-- Hand-written answers for `LinkLayer::clear`.
use Rattle.lapd_line.proofs.Vocabulary.{[], false, Sets, ap, subst, ◌∙◌, arith, Call, Packet, told_of_link, with_cleared, told_with, length}
use Rattle.std.specs.Vec.{with_item}
use Rattle.model_link.specs.Events as event
use Rattle.lapd_line.proofs.LinkEvents as links
use Rattle.lapd_line.proofs.LinkSteps.{in_vec, part_stands, serves}
use Rattle.lapd_line.proofs.TeiChangeSteps.{going, few_told, first_cleared, left, next_stands, second_within}
use Rattle.lapd_line.proofs.link_layer.LinkLayer.clear.Goals as goal

pub index_mut-requires : goal.index_mut-requires
index_mut-requires g c = let k = going c.requires.changing c.requires.left in in_vec c.args.self.now.links (k.within Call c.link_number-first.ensures)

pub clear-requires : goal.clear-requires
clear-requires g c =
    let k = going c.requires.changing c.requires.left in
    record { clear = c.nothing-call.ensures; stands = part_stands (k.within Call c.link_number-first.ensures) c.index_mut.ensures.value (c.args.self.now.config, k.others, k.ms, k.stand) }

pub set-requires : goal.set-requires
set-requires g c = let k = going c.requires.changing c.requires.left in k.low Call c.link_number-first.ensures

pub index_mut-requires-2 : goal.index_mut-requires-2
index_mut-requires-2 g c = let k = going c.requires.changing c.requires.left in in_vec (with_item c.args.self.now.links c.link_number-first.result c.clear.new.self) (second_within c.link_number-first.result c.clear.new.self k c.link_number-second.ensures)

pub clear-requires-2 : goal.clear-requires-2
clear-requires-2 g c =
    let k = going c.requires.changing c.requires.left in
    let one = first_cleared {call = c.clear.new.report} k c.link_number-first.ensures c.index_mut.ensures.value (record { stands = c.clear.ensures.stands; told = c.clear.ensures.told; cause = c.clear.ensures.cause; terms = c.clear.ensures.terms; limits = c.clear.ensures.limits }) in
    record { clear = c.nothing-packet.ensures; stands = part_stands (second_within c.link_number-first.result c.clear.new.self k c.link_number-second.ensures) c.index_mut-2.ensures.value (next_stands k c.link_number-first.ensures one) }

pub set-requires-2 : goal.set-requires-2
set-requires-2 g c = let k = going c.requires.changing c.requires.left in k.low Packet c.link_number-second.ensures

pub tell_cleared-requires : goal.tell_cleared-requires
tell_cleared-requires g c =
    let k = going c.requires.changing c.requires.left in
    let one = first_cleared {call = c.clear.new.report} k c.link_number-first.ensures c.index_mut.ensures.value (record { stands = c.clear.ensures.stands; told = c.clear.ensures.told; cause = c.clear.ensures.cause; terms = c.clear.ensures.terms; limits = c.clear.ensures.limits }) in
    let two = serves (second_within c.link_number-first.result c.clear.new.self k c.link_number-second.ensures) c.index_mut-2.ensures.value {answer = c.clear-2.new.report} (record { stands = c.clear-2.ensures.stands; told = c.clear-2.ensures.told; cause = c.clear-2.ensures.cause; terms = c.clear-2.ensures.terms; limits = c.clear-2.ensures.limits }) (next_stands k c.link_number-first.ensures one) in
    let (call, packet) = few_told k c.link_number-first.ensures c.link_number-second.ensures one two in
    record {
      notes = omega (arith, c.requires.short.notes, ap (λ l. length l) c.tell_management.ensures.notes, call.0, packet.0);
      orders = omega (arith, c.requires.short.orders, ap (λ l. length l) c.tell_management.ensures.orders, call.1, packet.1);
    }

pub returns : goal.returns
returns g c = λ what before octets is.
    let k = going c.requires.changing c.requires.left in
    let one = first_cleared {call = c.clear.new.report} k c.link_number-first.ensures c.index_mut.ensures.value (record { stands = c.clear.ensures.stands; told = c.clear.ensures.told; cause = c.clear.ensures.cause; terms = c.clear.ensures.terms; limits = c.clear.ensures.limits }) in
    let two = serves (second_within c.link_number-first.result c.clear.new.self k c.link_number-second.ensures) c.index_mut-2.ensures.value {answer = c.clear-2.new.report} (record { stands = c.clear-2.ensures.stands; told = c.clear-2.ensures.told; cause = c.clear-2.ensures.cause; terms = c.clear-2.ensures.terms; limits = c.clear-2.ensures.limits }) (next_stands k c.link_number-first.ensures one) in
    let e = c.args.self.now in
    let s = g.S.Shelf.store c.args.shelf.now in
    let u = g.S.Shelf.store c.clear.new.shelf in
    let t = g.S.Shelf.store c.clear-2.new.shelf in
    let mid = with_item e.links c.link_number-first.result c.clear.new.self in
    let new = with_item mid c.link_number-second.result c.clear-2.new.self in
    left e before what c.args.told is s u t octets c.tell_cleared.new.report c.args.tei c.args.place mid.items new c.clear.new.report c.clear-2.new.report c.set.new.self c.set-2.new.self c.requires.left
    (subst (λ n. Sets n false e.has_frame c.set.new.self) (k.exact c.link_number-first.ensures) c.set.ensures)
    (subst (λ n. Sets n false c.set.new.self c.set-2.new.self) (k.exact c.link_number-second.ensures) c.set-2.ensures)
    (subst (λ n. links.Serves n event.cleared [] e.links.items s mid.items u c.clear.new.report) (k.exact c.link_number-first.ensures) one)
    (subst (λ n. links.Serves n event.cleared [] mid.items u new.items t c.clear-2.new.report) (k.exact c.link_number-second.ensures) two)
    (c.tell_cleared.ensures octets ∙ ap (with_cleared (told_of_link (told_with [] c.clear.new.report)) (told_of_link (told_with [] c.clear-2.new.report))) (c.tell_management.ensures.told octets))
