-- Hand-written answers for `LinkLayer::take`.
use Rattle.lapd_line.proofs.Vocabulary.{option_or, message_taken, unit_taken, first_taken, round}
use Rattle.lapd_line.proofs.PullTakes.{takes_or, takes_first}
use Rattle.lapd_line.proofs.PullTakesLinks.{ready, still_ready}
use Rattle.lapd_line.proofs.link_layer.LinkLayer.take.Goals as goal

pub returns-in-Some : goal.returns-in-Some
returns-in-Some g c =
    takes_first (λ x m. option_or (unit_taken x m) (first_taken x m (round x m))) {first = λ x m. message_taken x m} (c.in-Some.ensures (g.S.Shelf.store c.args.shelf.now))

pub take_unit-requires : goal.take_unit-requires
take_unit-requires g c =
    let r = still_ready (c.in_default.ensures (g.S.Shelf.store c.args.shelf.now)) (ready c.requires.stands c.requires.free c.requires.room) in
    record { stands = r.stands; free = r.free; room = r.room }

pub returns-in-Some-take_unit : goal.returns-in-Some-take_unit
returns-in-Some-take_unit g c =
    takes_or {first = λ x m. message_taken x m} {second = λ x m. option_or (unit_taken x m) (first_taken x m (round x m))} (c.in_default.ensures (g.S.Shelf.store c.args.shelf.now))
    (takes_first (λ x m. first_taken x m (round x m)) {first = λ x m. unit_taken x m} c.in-Some-take_unit.ensures)

pub take_first-requires : goal.take_first-requires
take_first-requires g c =
    let r = still_ready c.in_default-take_unit.ensures (still_ready (c.in_default.ensures (g.S.Shelf.store c.args.shelf.now)) (ready c.requires.stands c.requires.free c.requires.room)) in
    record { stands = r.stands; free = r.free; room = r.room }

pub returns : goal.returns
returns g c =
    takes_or {first = λ x m. message_taken x m} {second = λ x m. option_or (unit_taken x m) (first_taken x m (round x m))} (c.in_default.ensures (g.S.Shelf.store c.args.shelf.now))
    (takes_or {first = λ x m. unit_taken x m} {second = λ x m. first_taken x m (round x m)} c.in_default-take_unit.ensures c.take_first.ensures)
