-- Hand-written answers for `LinkLayer::at_link`.
use Rattle.lapd_line.proofs.Vocabulary.{places_of, [], arith, sym, ap, ◌∙◌, place_of, at_timer}
use Rattle.lapd_line.proofs.AddressSteps.{nothing_after, serves_as, serves_none}
use Rattle.lapd_line.proofs.LayerSteps.{number_there, number_low, link_stands, at_found, at_link_serves}
use Rattle.lapd_line.proofs.ReportSteps.{clear_tells_nothing, link_told}
use Rattle.lapd_line.proofs.LinkSteps.{in_vec}
use Rattle.lapd_line.proofs.link_layer.LinkLayer.at_link.Goals as goal

pub returns-in_default : goal.returns-in_default
returns-in_default g c =
    serves_as (λ others m st. ap (at_timer c.args.service c.args.tei c.args.timer) (ap (λ t. place_of c.args.tei t.places) st.management ∙ sym c.in_default.ensures.place))
    (serves_none c.args.self.now (g.S.Shelf.store c.args.shelf.now) [] c.args.report.now _ (clear_tells_nothing [] c.requires.clear))

pub index_mut-link-requires : goal.index_mut-link-requires
index_mut-link-requires g c = in_vec c.args.self.now.links (number_there c.args.service c.requires.stands (at_found (places_of c.args.self.now.teis) c.in-Some.ensures.place) c.link_number-number.ensures)

pub expire-requires : goal.expire-requires
expire-requires g c = record { clear = c.requires.clear; stands = link_stands c.args.service c.requires.stands (at_found (places_of c.args.self.now.teis) c.in-Some.ensures.place) c.link_number-number.ensures c.index_mut-link.ensures.value }

pub set-requires : goal.set-requires
set-requires g c = number_low c.args.service c.requires.stands (at_found (places_of c.args.self.now.teis) c.in-Some.ensures.place) c.link_number-number.ensures

pub returns : goal.returns
returns g c =
    serves_as (λ others m st. ap (at_timer c.args.service c.args.tei c.args.timer) (ap (λ t. place_of c.args.tei t.places) st.management ∙ sym c.in-Some.ensures.place))
    (at_link_serves {answer = c.expire.new.report} c.requires.stands (at_found (places_of c.args.self.now.teis) c.in-Some.ensures.place) c.link_number-number.ensures c.index_mut-link.ensures.value
    (record { stands = c.expire.ensures.stands; told = c.expire.ensures.told; cause = c.expire.ensures.cause; terms = c.expire.ensures.terms; limits = c.expire.ensures.limits })
    c.has_frame.ensures c.set.ensures (λ none. link_told [] [] c.expire.new.report c.expire.new.report.start none (nothing_after [] c.expire.new.report.start (omega arith))))
