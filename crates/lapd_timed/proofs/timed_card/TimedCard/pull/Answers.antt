-- An octet is given, and what it orders is carried out.
use Rattle.std.proofs.Common.{◌≡◌, ◌<◌, refl, subst, sym}
use Rattle.model_card.specs.Card.{line_at}
use Rattle.model_card.specs.Event.{Event}
use Rattle.model_line.specs.Machine as lines
use Rattle.model_timed.specs.Changes.{standing}
use Rattle.lapd_timed.proofs.Touched.{next-stays}
use Rattle.model_card.specs.ports.Event.{at}
use Rattle.model_card.specs.ports.Port.{pull}
use Rattle.lapd_timed.proofs.Steps.{octets-called-still, pull-means}
use Rattle.lapd_timed.specs.Stands.{TimersStandIn}
use Rattle.lapd_timed.proofs.timed_card.TimedCard.pull.Goals as goal

pub returns : goal.returns
returns c = record {
  called = octets-called-still c.args.line (at c.args.line pull) refl tt c.args.self.now c.carry_out.new.self c.in-Octets.card c.pull-pulled.new.self c.in-Octets.is c.carry_out.ensures.card c.pull-pulled.ensures.called
      c.requires.within c.orders.result.now c.carry_out.ensures.carried (λ is m k stood. subst (λ ts. TimersStandIn ts m k) (sym (c.carry_out.ensures.none is)) stood) (λ m s. c.orders.ensures) c.carry_out.ensures.still
      (λ m on f meant reached here number. subst (λ (g : Event). standing number (lines.after m.card.config g.what (line_at g.line m.card)) ≡ standing number (line_at g.line m.card)) (sym (pull-means c.args.line m f meant))
      (next-stays m.card reached c.args.line (subst (λ (g : Event). g.line < m.card.config.lines) (pull-means c.args.line m f meant) here) number));
}
