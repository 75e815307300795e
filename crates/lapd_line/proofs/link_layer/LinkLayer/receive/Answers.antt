-- Hand-written answers for `LinkLayer::receive`.
use Rattle.lapd_line.proofs.LayerSteps.{number_there, number_low, link_stands, at_link_serves}
use Rattle.lapd_line.proofs.ReportSteps.{link_told}
use Rattle.lapd_line.proofs.LinkSteps.{in_vec}
use Rattle.lapd_line.proofs.link_layer.LinkLayer.receive.Goals as goal

pub index_mut-link-requires : goal.index_mut-link-requires
index_mut-link-requires g c = in_vec c.args.self.now.links (number_there c.args.service c.requires.stands c.requires.at c.link_number-number.ensures)

pub receive-requires : goal.receive-requires
receive-requires g c = record { stands = link_stands c.args.service c.requires.stands c.requires.at c.link_number-number.ensures c.index_mut-link.ensures.value; clear = c.requires.clear }

pub set-requires : goal.set-requires
set-requires g c = number_low c.args.service c.requires.stands c.requires.at c.link_number-number.ensures

pub returns : goal.returns
returns g c = λ octets is.
    at_link_serves {answer = c.receive.new.report} c.requires.stands c.requires.at c.link_number-number.ensures c.index_mut-link.ensures.value
    (record { stands = c.receive.ensures.stands; told = c.receive.ensures.told; cause = c.receive.ensures.cause; terms = c.receive.ensures.terms; limits = c.receive.ensures.limits })
    c.has_frame.ensures c.set.ensures (λ none. link_told octets _ c.receive.new.report c.args.start none is)
