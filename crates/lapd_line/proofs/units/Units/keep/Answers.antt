-- Hand-written answers for `Units::keep`.
use Rattle.lapd_line.proofs.Vocabulary.{refl, ap, arith}
use Rattle.lapd_line.proofs.RestoredUnits.{comes, used_more}
use Rattle.lapd_line.proofs.units.Units.keep.Goals as goal

pub returns-clause-comes : goal.returns-clause-comes
returns-clause-comes g c =
    comes (record { service = c.args.service; tei = c.args.tei; slot = c.in-Some.slot }) _ refl refl c.in-Some.ensures.free c.in-Some.ensures.stored (ap (λ q. q.waiting) c.push.ensures)

pub returns-clause-used : goal.returns-clause-used
returns-clause-used g c = omega (arith, used_more (g.S.Shelf.store c.args.shelf.now) (g.S.Shelf.store c.put.new.self) c.in-Some.slot c.args.contents.now c.in-Some.ensures.free c.in-Some.ensures.stored, c.used.ensures.count, c.if-used-slots.false)
