-- Hand-written answers for `LinkLayer::take_unit`.
use Rattle.lapd_line.proofs.Vocabulary.{◌≡◌, [], true, false, Some, length, Ui, Loads, spelling, ap, sym, subst, ◌∙◌, arith, same_Some, unit_taken, Takes, orders_taken}
use Rattle.lapd_line.proofs.PullTakesUnits.{oldest, is_frame, no_unit, unit_loaded}
use Rattle.lapd_line.proofs.link_layer.LinkLayer.take_unit.Goals as goal

pub returns-in_err-unit : goal.returns-in_err-unit
returns-in_err-unit g c =
    let s = g.S.Shelf.store c.args.shelf.now in
    subst (λ r. Takes (λ c' m. unit_taken c' m) c.args.self.now s (g.O.Outlet.loading c.args.out.now) c.args.self.now s (g.O.Outlet.loading c.args.out.now) (orders_taken r)) (sym c.from_residual.ensures)
    (no_unit c.args.self.now s (g.O.Outlet.loading c.args.out.now) c.in_err-unit.ensures)

pub get-requires : goal.get-requires
get-requires g c =
    let (others, m, st) = c.requires.stands in
    (oldest c.args.self.now (g.S.Shelf.store c.args.shelf.now) others m c.in_ok-unit.unit st (sym c.in_ok-unit.ensures)).used

pub load-requires : goal.load-requires
load-requires g c =
    let (others, m, st) = c.requires.stands in
    let o = oldest c.args.self.now (g.S.Shelf.store c.args.shelf.now) others m c.in_ok-unit.unit st (sym c.in_ok-unit.ensures) in
    let same : c.get.result.now ≡ o.unit.contents = same_Some c.get.result.now o.unit.contents (sym c.get.ensures.octets ∙ o.contents) in
    record {
      free = c.requires.free;
      frame = is_frame c.in_ok-unit.unit.service c.usual_sapi.result c.in_ok-unit.unit.tei c.usual_sapi.ensures (omega (arith, o.tei, o.fits.tei));
      info = omega (arith, c.requires.room, o.fits.size, ap (λ l. length l) same);
    }

pub returns : goal.returns
returns g c =
    let s = g.S.Shelf.store c.args.shelf.now in
    let t = g.S.Shelf.store c.release.new.self in
    subst (λ o. Takes (λ c' m. unit_taken c' m) c.args.self.now s (g.O.Outlet.loading c.args.out.now) (record c.args.self.now { units = c.pop.new.self }) t (g.O.Outlet.loading c.load.new.out) (Some o)) (sym c.none.ensures)
    (subst (λ r. Takes (λ c' m. unit_taken c' m) c.args.self.now s (g.O.Outlet.loading c.args.out.now) (record c.args.self.now { units = r }) t (g.O.Outlet.loading c.load.new.out) (Some [])) (sym c.pop.ensures)
    (unit_loaded c.args.self.now s t (g.O.Outlet.loading c.args.out.now) (g.O.Outlet.loading c.load.new.out) c.in_ok-unit.unit c.usual_sapi.result c.get.result.now (sym c.in_ok-unit.ensures) c.usual_sapi.ensures c.get.ensures.octets
    c.release.ensures.released c.release.ensures.limits c.load.ensures.room c.load.ensures.reference
    (subst (λ sender. Loads (spelling sender (record { address = record { sapi = c.usual_sapi.result; command = true; tei = c.in_ok-unit.unit.tei }; control = Ui false; info = c.get.result.now })) (g.O.Outlet.loading c.args.out.now) (g.O.Outlet.loading c.load.new.out))
    c.own_side.ensures c.load.ensures.loaded)))
