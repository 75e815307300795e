-- Hand-written answers for `LinkLayer::held_by_links`.
use Rattle.lapd_line.proofs.Vocabulary.{◌≡◌, ◌<◌, ap, ◌∙◌, arith, sum_by, range_with_len, link_count, held_by_link, ranges_of}
use Rattle.lapd_line.proofs.LayerSteps.{link_within, links_standing}
use Rattle.lapd_line.proofs.LinkSteps.{in_vec, part_stands}
use Rattle.lapd_line.proofs.HeldSteps.{few_at, held_place, held_more}
use Rattle.lapd_line.proofs.link_layer.LinkLayer.held_by_links.Goals as goal

pub index-requires : goal.index-requires
index-requires c = let (store, standing) = c.requires in in_vec c.args.self.now.links (link_within standing (omega (arith, c.loop-number-test.true, c.from-number-end.ensures)))

pub held-octets-requires : goal.held-octets-requires
held-octets-requires c =
    let (store, standing) = c.requires in
    let (others, m, st) = part_stands (link_within standing (omega (arith, c.loop-number-test.true, c.from-number-end.ensures))) c.index.ensures (links_standing standing) in
    (store, others, m, st)

pub overflow_add-octets : goal.overflow_add-octets
overflow_add-octets c =
    let (store, (others, m, st)) = c.requires in
    let (rest, l, stands) = part_stands (link_within (others, m, st) (omega (arith, c.loop-number-test.true, c.from-number-end.ensures))) c.index.ensures (links_standing (others, m, st)) in
    omega (arith, c.loop-number.invariant.1, few_at stands (c.held-octets.ensures store rest l stands), c.loop-number-test.true, c.from-number-end.ensures, (ranges_of c.args.self.now.config st.range).terminals.most)

pub loop-number-preserved : goal.loop-number-preserved
loop-number-preserved c = (
  λ store others m st.
      let within : c.loop-number.number < link_count c.args.self.now.config = omega (arith, c.loop-number-test.true, c.from-number-end.ensures) in
      held_more (held_by_link c.args.self.now.config m) c.loop-number.number c.loop-number.octets c.held-octets.result (c.loop-number.invariant.0 store others m st)
      (held_place c.args.self.now store others m c.loop-number.number _ c.held-octets.result st within c.index.ensures (c.held-octets.ensures store)),
  let (store, standing) = c.requires in
      let (others, m, st) = part_stands (link_within standing (omega (arith, c.loop-number-test.true, c.from-number-end.ensures))) c.index.ensures (links_standing standing) in
      omega (arith, c.loop-number.invariant.1, few_at st (c.held-octets.ensures store others m st)),
)

pub returns-clause-held : goal.returns-clause-held
returns-clause-held c = λ store others m st.
    let all : c.loop-number.number ≡ link_count c.args.self.now.config = omega (arith, c.loop-number-test.false, c.loop-number.auto.number-end, c.from-number-end.ensures) in
    c.loop-number.invariant.0 store others m st
    ∙ ap (λ n. sum_by (held_by_link c.args.self.now.config m) (range_with_len 0 n)) all
