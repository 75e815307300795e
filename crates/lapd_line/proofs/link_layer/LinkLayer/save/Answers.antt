-- Hand-written answers for `LinkLayer::save`.
use Rattle.lapd_line.proofs.Vocabulary.{[], ◌∷◌, ap, sym}
use Rattle.lapd_image.proofs.Puts.{puts-same}
use Rattle.lapd_line.proofs.SavedSteps.{managed_image, units_stand, line_put, few_wait, small_teis}
use Rattle.lapd_line.proofs.SavedWhole.{line_saved}
use Rattle.lapd_line.proofs.PullTakesUnits.{beside_units}
use Rattle.lapd_line.proofs.link_layer.LinkLayer.save.Goals as goal

pub save-at-requires-2-clause-few : goal.save-at-requires-2-clause-few
save-at-requires-2-clause-few g c =
    let (others, m, st) = c.requires.stands in
    few_wait c.args.self.now (g.S.Shelf.store c.args.shelf.now) others m st

pub save-at-requires-2-clause-teis : goal.save-at-requires-2-clause-teis
save-at-requires-2-clause-teis g c =
    let (others, m, st) = c.requires.stands in
    small_teis c.args.self.now.config c.args.self.now.units.waiting m.units st.addressed st.sound.units

pub save-at-requires-2-clause-stands : goal.save-at-requires-2-clause-stands
save-at-requires-2-clause-stands g c =
    let (others, m, st) = c.requires.stands in
    let e = c.args.self.now in
    let s = g.S.Shelf.store c.args.shelf.now in
    ((beside_units e s others m st).rest, m.units, units_stand e s others m st)

pub put_octet-at-requires : goal.put_octet-at-requires
put_octet-at-requires g c =
    let (others, m, st) = c.requires.stands in
    let e = c.args.self.now in
    let s = g.S.Shelf.store c.args.shelf.now in
    (c.save-at-2.ensures.puts (beside_units e s others m st).rest m.units (units_stand e s others m st)).within

pub returns-clause-puts : goal.returns-clause-puts
returns-clause-puts g c = λ others m st.
    let e = c.args.self.now in
    let s = g.S.Shelf.store c.args.shelf.now in
    line_put e.config m (managed_image e.config m e.teis st.management st.own st.kind) c.save-at.ensures.puts
    (c.save-at-2.ensures.puts (beside_units e s others m st).rest m.units (units_stand e s others m st))
    (puts-same (ap (λ n. n ∷ []) (sym st.turn)) c.put_octet-at.ensures)
    (c.save_links.ensures.puts others m st)

pub returns-clause-saved : goal.returns-clause-saved
returns-clause-saved g c = λ others m st timed.
    let e = c.args.self.now in
    let s = g.S.Shelf.store c.args.shelf.now in
    line_saved m st c.save-at.ensures.saved (c.save-at-2.ensures.saved (beside_units e s others m st).rest m.units (units_stand e s others m st)) (c.save_links.ensures.saved others m st timed) timed
