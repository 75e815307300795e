-- Hand-written answers for `LinkLayer::deactivate`.
use Rattle.lapd_line.proofs.Vocabulary.{places_of, [], sym, ap, ◌∙◌, arith, place_of, at_deactivated}
use Rattle.lapd_line.proofs.AddressSteps.{nothing_after, serves_as}
use Rattle.lapd_line.proofs.LayerRequests.{deactivated_refused, deactivated_granted, low_tei}
use Rattle.lapd_line.proofs.LayerSteps.{number_there, number_low, link_stands, at_found, at_link_serves}
use Rattle.lapd_line.proofs.ReportSteps.{link_told}
use Rattle.lapd_line.proofs.LinkSteps.{in_vec}
use Rattle.lapd_line.proofs.link_layer.LinkLayer.deactivate.Goals as goal

pub returns-in_default-clause-refused : goal.returns-in_default-clause-refused
returns-in_default-clause-refused g c = λ others m st.
    deactivated_refused c.args.self.now (g.S.Shelf.store c.args.shelf.now) others m st c.args.service c.args.tei (low_tei c.args.tei (omega arith)) (sym c.in_default.ensures.place)

pub index_mut-link-requires : goal.index_mut-link-requires
index_mut-link-requires g c = in_vec c.args.self.now.links (number_there c.args.service c.requires.stands (at_found (places_of c.args.self.now.teis) c.in-Some.ensures.place) c.link_number-number.ensures)

pub clear-requires : goal.clear-requires
clear-requires g c = record { clear = c.requires.clear; stands = link_stands c.args.service c.requires.stands (at_found (places_of c.args.self.now.teis) c.in-Some.ensures.place) c.link_number-number.ensures c.index_mut-link.ensures.value }

pub set-requires : goal.set-requires
set-requires g c = number_low c.args.service c.requires.stands (at_found (places_of c.args.self.now.teis) c.in-Some.ensures.place) c.link_number-number.ensures

pub returns-clause-granted : goal.returns-clause-granted
returns-clause-granted g c = λ others m st.
    deactivated_granted c.args.self.now (g.S.Shelf.store c.args.shelf.now) others m st c.args.service c.args.tei c.in-Some.place (low_tei c.args.tei (omega arith)) (sym c.in-Some.ensures.place)

pub returns-clause-served : goal.returns-clause-served
returns-clause-served g c =
    serves_as (λ others m st. ap (at_deactivated c.args.service c.args.tei) (ap (λ t. place_of c.args.tei t.places) st.management ∙ sym c.in-Some.ensures.place))
    (at_link_serves {answer = c.clear.new.report} c.requires.stands (at_found (places_of c.args.self.now.teis) c.in-Some.ensures.place) c.link_number-number.ensures c.index_mut-link.ensures.value
    (record { stands = c.clear.ensures.stands; told = c.clear.ensures.told; cause = c.clear.ensures.cause; terms = c.clear.ensures.terms; limits = c.clear.ensures.limits })
    c.has_frame.ensures c.set.ensures (λ none. link_told [] [] c.clear.new.report c.clear.new.report.start none (nothing_after [] c.clear.new.report.start (omega arith))))
