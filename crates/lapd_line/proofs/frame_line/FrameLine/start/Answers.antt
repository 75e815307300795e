-- Hand-written answers for `FrameLine::start`.
use Rattle.lapd_line.proofs.Vocabulary.{ap, ◌∙◌, empty_ring}
use Rattle.lapd_line.proofs.StartSteps.{layer_fresh}
use Rattle.lapd_line.proofs.frame_line.FrameLine.start.Goals as goal

pub returns-clause-fresh : goal.returns-clause-fresh
returns-clause-fresh c = λ store others wide held. record {
  layer =
      layer_fresh c.args.config.now c.in_ok-teis.teis c.in_ok-links.links c.in_ok-units.units c.none.result c.requires c.in_ok-teis.ensures c.in_ok-links.ensures
      (c.in_ok-units.ensures ∙ ap empty_ring c.from.ensures) c.none.ensures store others wide held;
}
