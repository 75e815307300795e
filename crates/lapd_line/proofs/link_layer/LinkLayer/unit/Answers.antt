-- Hand-written answers for `LinkLayer::unit`.
use Rattle.lapd_line.proofs.Vocabulary.{[], refl, arith}
use Rattle.lapd_line.proofs.UnitSteps.{refused_so, placed, unit_serves}
use Rattle.lapd_line.proofs.ReportSteps.{clear_tells_nothing}
use Rattle.lapd_line.proofs.link_layer.LinkLayer.unit.Goals as goal

pub returns-in-Some-clause-refused : goal.returns-in-Some-clause-refused
returns-in-Some-clause-refused g c =
    refused_so c.args.self.now (g.S.Shelf.store c.args.shelf.now) c.args.service c.args.tei c.args.contents.now c.args.slots c.used.result _ c.used.ensures.count c.in-Some.ensures

pub put-requires : goal.put-requires
put-requires g c =
    (placed c.args.self.now (g.S.Shelf.store c.args.shelf.now) c.args.slots c.args.service c.args.tei c.args.contents.now c.requires.stands c.requires.slots
    (refused_so c.args.self.now (g.S.Shelf.store c.args.shelf.now) c.args.service c.args.tei c.args.contents.now c.args.slots c.used.result _ c.used.ensures.count c.in_default.ensures)).size

pub returns-in_default-put-clause-refused : goal.returns-in_default-put-clause-refused
returns-in_default-put-clause-refused g c =
    let place = placed c.args.self.now (g.S.Shelf.store c.args.shelf.now) c.args.slots c.args.service c.args.tei c.args.contents.now c.requires.stands c.requires.slots
    (refused_so c.args.self.now (g.S.Shelf.store c.args.shelf.now) c.args.service c.args.tei c.args.contents.now c.args.slots c.used.result _ c.used.ensures.count c.in_default.ensures) in
    absurd (omega (arith, place.slot, c.in_default-put.ensures.full.0 refl))

pub push-requires : goal.push-requires
push-requires g c =
    (placed c.args.self.now (g.S.Shelf.store c.args.shelf.now) c.args.slots c.args.service c.args.tei c.args.contents.now c.requires.stands c.requires.slots
    (refused_so c.args.self.now (g.S.Shelf.store c.args.shelf.now) c.args.service c.args.tei c.args.contents.now c.args.slots c.used.result _ c.used.ensures.count c.in_default.ensures)).ring

pub returns-clause-granted : goal.returns-clause-granted
returns-clause-granted g c =
    refused_so c.args.self.now (g.S.Shelf.store c.args.shelf.now) c.args.service c.args.tei c.args.contents.now c.args.slots c.used.result _ c.used.ensures.count c.in_default.ensures

pub returns-clause-served : goal.returns-clause-served
returns-clause-served g c =
    let s = g.S.Shelf.store c.args.shelf.now in
    let t = g.S.Shelf.store c.put.new.self in
    unit_serves c.args.self.now s t c.push.new.self c.args.slots c.args.service c.args.tei c.in-Some-put.slot c.args.contents.now c.args.report.now
    (refused_so c.args.self.now s c.args.service c.args.tei c.args.contents.now c.args.slots c.used.result _ c.used.ensures.count c.in_default.ensures)
    c.in-Some-put.ensures.free c.in-Some-put.ensures.stored c.put.ensures.limits c.push.ensures (clear_tells_nothing [] c.requires.clear)
