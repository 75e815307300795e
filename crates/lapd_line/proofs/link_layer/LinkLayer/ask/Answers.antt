-- Hand-written answers for `LinkLayer::ask`.
use Rattle.lapd_line.proofs.Vocabulary.{places_of, ap, ◌∙◌, [], nat_le, sym, arith, used_slots}
use Rattle.lapd_link.specs.Events as link
use Rattle.lapd_line.proofs.LayerSteps.{number_there, number_low, link_stands, at_found}
use Rattle.lapd_line.proofs.LinkSteps.{in_vec, item_kept, refuses}
use Rattle.std.specs.Vec.{with_item}
use Rattle.lapd_line.proofs.AddressSteps.{nothing_after}
use Rattle.lapd_line.proofs.ReportSteps.{link_told}
use Rattle.lapd_line.proofs.LayerRequests.{no_link, asked, asked_serves, low_tei}
use Rattle.lapd_line.proofs.link_layer.LinkLayer.ask.Goals as goal

pub returns-in_default-clause-refused : goal.returns-in_default-clause-refused
returns-in_default-clause-refused g c = λ others m st.
    no_link c.args.self.now (g.S.Shelf.store c.args.shelf.now) others m st c.args.service c.args.tei (nat_le c.args.slots (used_slots (g.S.Shelf.store c.args.shelf.now))) (link.request_of c.args.request) (low_tei c.args.tei (omega arith)) (sym c.in_default.ensures.place)

pub index_mut-link-requires : goal.index_mut-link-requires
index_mut-link-requires g c = in_vec c.args.self.now.links (number_there c.args.service c.requires.stands (at_found (places_of c.args.self.now.teis) c.in-Some.ensures.place) c.link_number-number.ensures)

pub request-requires-clause-stands : goal.request-requires-clause-stands
request-requires-clause-stands g c = link_stands c.args.service c.requires.stands (at_found (places_of c.args.self.now.teis) c.in-Some.ensures.place) c.link_number-number.ensures c.index_mut-link.ensures.value

pub set-requires : goal.set-requires
set-requires g c = number_low c.args.service c.requires.stands (at_found (places_of c.args.self.now.teis) c.in-Some.ensures.place) c.link_number-number.ensures

pub returns-in-Ok-clause-granted : goal.returns-in-Ok-clause-granted
returns-in-Ok-clause-granted g c = λ others m st.
    asked c.args.self.now (g.S.Shelf.store c.args.shelf.now) others m st c.args.service c.args.tei (nat_le c.args.slots (used_slots (g.S.Shelf.store c.args.shelf.now))) (link.request_of c.args.request) c.in-Some.place c.link_number-number.result _ (low_tei c.args.tei (omega arith)) (sym c.in-Some.ensures.place) c.link_number-number.ensures
    (refuses (number_there c.args.service c.requires.stands (at_found (places_of c.args.self.now.teis) c.in-Some.ensures.place) c.link_number-number.ensures) c.index_mut-link.ensures.value _ _ c.in-Ok.ensures.granted)

pub returns-in-Ok-clause-served : goal.returns-in-Ok-clause-served
returns-in-Ok-clause-served g c =
    asked_serves c.args.service c.args.tei {answer = c.request.new.report} c.requires.stands (sym c.in-Some.ensures.place) c.link_number-number.ensures c.index_mut-link.ensures.value c.has_frame.ensures c.set.ensures
    (refuses (number_there c.args.service c.requires.stands (at_found (places_of c.args.self.now.teis) c.in-Some.ensures.place) c.link_number-number.ensures) c.index_mut-link.ensures.value (nat_le c.args.slots (used_slots (g.S.Shelf.store c.args.shelf.now))) (link.request_of c.args.request) c.in-Ok.ensures.granted)
    (record { stands = c.in-Ok.ensures.stands; told = c.in-Ok.ensures.told; cause = c.in-Ok.ensures.cause; terms = c.request.ensures.terms; limits = c.request.ensures.limits })
    (λ none. link_told [] [] c.request.new.report c.request.new.report.start none (nothing_after [] c.request.new.report.start (omega arith)))

pub returns-in-Err-clause-refused : goal.returns-in-Err-clause-refused
returns-in-Err-clause-refused g c = λ others m st.
    asked c.args.self.now (g.S.Shelf.store c.args.shelf.now) others m st c.args.service c.args.tei (nat_le c.args.slots (used_slots (g.S.Shelf.store c.args.shelf.now))) (link.request_of c.args.request) c.in-Some.place c.link_number-number.result _ (low_tei c.args.tei (omega arith)) (sym c.in-Some.ensures.place) c.link_number-number.ensures
    (refuses (number_there c.args.service c.requires.stands (at_found (places_of c.args.self.now.teis) c.in-Some.ensures.place) c.link_number-number.ensures) c.index_mut-link.ensures.value _ _ c.in-Err.ensures.refused)

pub returns-in-Err-clause-unchanged : goal.returns-in-Err-clause-unchanged
returns-in-Err-clause-unchanged g c =
    ap (λ v. record c.args.self.now { links = v })
    (ap (with_item c.args.self.now.links c.link_number-number.result) c.in-Err.ensures.unchanged ∙ item_kept c.args.self.now.links c.link_number-number.result _ c.index_mut-link.ensures.value)
