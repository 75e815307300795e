-- Hand-written answers for `LinkLayer::addressee`.
use Rattle.lapd_line.proofs.Vocabulary.{places_of, sym, place_of-is}
use Rattle.lapd_line.proofs.link_layer.LinkLayer.addressee.Goals as goal

pub returns-in-Some-place-clause-at : goal.returns-in-Some-place-clause-at
returns-in-Some-place-clause-at c = (place_of-is (places_of c.args.self.now.teis) c.args.address.tei c.in-Some-place.place (sym c.in-Some-place.ensures.place)).1
