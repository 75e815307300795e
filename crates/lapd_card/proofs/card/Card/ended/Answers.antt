-- Hand-written answers for `Card::ended`.
use Rattle.lapd_card.proofs.Vocabulary.{◌<◌, sym, subst, ◌∙◌}
use Rattle.lapd_card.specs.Card.{line_count}
use Rattle.lapd_card.proofs.OnePort.{port-there, port_holds, stood}
use Rattle.lapd_card.proofs.card.Card.ended.Goals as goal

pub index-requires : goal.index-requires
index-requires g c = port-there g.S.Shelf.store _ c.args.self.now c.args.line _ c.self.invariant c.self.view_is c.requires c.self.inside.ports.ok.0

pub returns : goal.returns
returns g c = λ m s. c.latest.ensures ∙ (port_holds g.S.Shelf.store (record { past = c.self.invariant; within = (subst (λ d. c.args.line < line_count d) (sym c.self.view_is) c.requires); is = c.index.ensures }) m (stood g.S.Shelf.store c.self.view_is m s)).ended
