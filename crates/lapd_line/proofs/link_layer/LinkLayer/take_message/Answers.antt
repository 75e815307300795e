-- Hand-written answers for `LinkLayer::take_message`.
use Rattle.lapd_line.proofs.Vocabulary.{sym, ◌∙◌}
use Rattle.lapd_line.proofs.MessageTakes.{none_waits}
use Rattle.lapd_line.proofs.link_layer.LinkLayer.take_message.Goals as goal

pub returns-then-not-has_message : goal.returns-then-not-has_message
returns-then-not-has_message g c = λ store.
    none_waits c.args.self.now store (g.O.Outlet.loading c.args.out.now) (sym (c.has_message.ensures c.args.self.now.config.side) ∙ cc)
