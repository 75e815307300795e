-- Hand-written answers for `LinkLayer::restore_link`.
use Rattle.lapd_line.proofs.Vocabulary.{◌∙◌, arith, sym}
use Rattle.std.specs.Vec.{with_item}
use Rattle.lapd_image.proofs.Reading.{on_err}
use Rattle.lapd_line.proofs.LinkSteps.{in_vec, may_open, tells_now}
use Rattle.lapd_line.proofs.RestoredLinks.{begun_part, no_tei, none_at, none_in, one_at, opens_at, restored_in, terms_kept}
use Rattle.lapd_line.proofs.link_layer.LinkLayer.restore_link.Goals as goal

pub returns-in_default-clause-read : goal.returns-in_default-clause-read
returns-in_default-clause-read g c = no_tei c.args.self.now (g.S.Shelf.store c.args.shelf.now) c.args.number _ c.args.reader.now (sym c.tei_at.ensures ∙ c.in_default.is)

pub index_mut-requires : goal.index_mut-requires
index_mut-requires g c = let (others, ms, st, many, begun) = c.requires.begun in in_vec c.args.self.now.links (omega (arith, st.same, many, c.requires.few))

pub with_terms-requires : goal.with_terms-requires
with_terms-requires g c =
    let (others, ms, st, many, begun) = c.requires.begun in
    let may = may_open (omega (arith, st.same, many, c.requires.few)) c.index_mut.ensures.value st begun c.terms.ensures.terms in
    record { range = c.terms.ensures.in_range; queue = may.queue; control = may.control; down = may.down }

pub index_mut-link-requires : goal.index_mut-link-requires
index_mut-link-requires g c =
    let o = opens_at {e = c.args.self.now} c.in-Some.tei c.requires.begun c.requires.few c.index_mut.ensures.value c.service_at.ensures c.terms.ensures.terms c.with_terms.ensures.terms c.with_terms.ensures.fresh in
    in_vec (with_item c.args.self.now.links c.args.number c.with_terms.new.self) o.within

pub restore-requires-clause-fresh : goal.restore-requires-clause-fresh
restore-requires-clause-fresh g c =
    let o = opens_at {e = c.args.self.now} c.in-Some.tei c.requires.begun c.requires.few c.index_mut.ensures.value c.service_at.ensures c.terms.ensures.terms c.with_terms.ensures.terms c.with_terms.ensures.fresh in
    begun_part _ o.within c.index_mut-link.ensures.value o.begun

pub returns-in_err-restore-clause-none : goal.returns-in_err-restore-clause-none
returns-in_err-restore-clause-none g c =
    let o = opens_at {e = c.args.self.now} c.in-Some.tei c.requires.begun c.requires.few c.index_mut.ensures.value c.service_at.ensures c.terms.ensures.terms c.with_terms.ensures.terms c.with_terms.ensures.fresh in
    on_err c.from_residual.result
    (none_at c.args.self.now _ (g.S.Shelf.store c.args.shelf.now) c.args.number (sym c.tei_at.ensures ∙ c.in-Some.is) o.is.has
    (none_in _ o.within c.index_mut-link.ensures.value (g.S.Shelf.store c.args.shelf.now) c.in_err-restore.ensures.none))

pub returns-clause-read : goal.returns-clause-read
returns-clause-read g c =
    let o = opens_at {e = c.args.self.now} c.in-Some.tei c.requires.begun c.requires.few c.index_mut.ensures.value c.service_at.ensures c.terms.ensures.terms c.with_terms.ensures.terms c.with_terms.ensures.fresh in
    let one = with_item c.args.self.now.links c.args.number c.with_terms.new.self in
    one_at c.args.self.now one.items (with_item one c.args.number c.restore.new.self) c.set.new.self (g.S.Shelf.store c.args.shelf.now) (g.S.Shelf.store c.restore.new.shelf) (sym c.tei_at.ensures ∙ c.in-Some.is)
    o.is o.stands (restored_in _ o.within c.index_mut-link.ensures.value o.begun c.restore.ensures.terms c.restore.ensures.limits c.in_ok-restore.ensures.read)
    (terms_kept one.items o.within c.index_mut-link.ensures.value c.restore.new.self c.restore.ensures.terms) (tells_now one.items o.within c.has_frame.ensures) c.set.ensures
