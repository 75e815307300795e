-- Hand-written answers for `LinkLayer::has_receiver`.
use Rattle.lapd_line.proofs.Vocabulary.{places_of, ◌||◌, sym, ap, ◌∙◌, ne_eqb, is_on}
use Rattle.std.specs.Option.{is_some}
use Rattle.lapd_line.proofs.UnitSteps.{has_place}
use Rattle.lapd_line.proofs.link_layer.LinkLayer.has_receiver.Goals as goal

pub returns-else-tei-eq-GROUP : goal.returns-else-tei-eq-GROUP
returns-else-tei-eq-GROUP c =
    c.is_some.ensures ∙ ap is_some c.place.ensures.place ∙ has_place (places_of c.args.self.now.teis) c.args.tei
    ∙ ap (λ b. b || is_on c.args.tei (places_of c.args.self.now.teis)) (sym (ne_eqb c.args.tei 127 c.if-tei-eq-GROUP.false))
