-- Hand-written answers for `LinkLayer::give_up_unit`.
use Rattle.lapd_line.proofs.Vocabulary.{sym, subst, drop, LayerStands}
use Rattle.lapd_line.proofs.PullTakesUnits.{oldest, without_unit}
use Rattle.lapd_line.proofs.GivingUp.{no_unit_given_up}
use Rattle.lapd_line.proofs.link_layer.LinkLayer.give_up_unit.Goals as goal

pub release-requires : goal.release-requires
release-requires g c =
    let (others, m, st) = c.requires in
    (oldest c.args.self.now (g.S.Shelf.store c.args.shelf.now) others m c.in-Some.unit st (sym c.in-Some.ensures)).used

pub returns-in-Some-clause-after : goal.returns-in-Some-clause-after
returns-in-Some-clause-after g c = λ others m st.
    let t = g.S.Shelf.store c.release.new.self in
    subst (λ ring. LayerStands (record c.args.self.now { units = ring }) t others (record m { units = drop 1 m.units })) (sym c.pop.ensures)
    (without_unit c.args.self.now (g.S.Shelf.store c.args.shelf.now) t others m c.in-Some.unit st (sym c.in-Some.ensures) c.release.ensures.released)

pub returns-in_default-clause-after : goal.returns-in_default-clause-after
returns-in_default-clause-after g c = no_unit_given_up c.args.self.now (g.S.Shelf.store c.args.shelf.now) c.in_default.ensures
