-- Hand-written answers for `FrameCard::state`.
use Rattle.lapd_card.proofs.Vocabulary.{◌<◌, subst}
use Rattle.model_line.specs.Line as machine
use Rattle.lapd_card.proofs.OneLine.{line-there}
use Rattle.lapd_card.proofs.OneEvent.{told_of_link}
use Rattle.lapd_card.proofs.frame_card.FrameCard.state.Goals as goal

pub index-requires : goal.index-requires
index-requires g c = line-there g.S.Shelf.store _ c.args.self.now c.args.line _ c.self.invariant c.self.view_is (subst (λ n. c.args.line < n) c.lines.ensures c.if-line-lines.true) c.self.inside.lines.ok.0

pub returns-then-line-lines : goal.returns-then-line-lines
returns-then-line-lines g c = told_of_link g.S.Shelf.store (record { past = c.self.invariant; same = c.self.view_is; within = (subst (λ n. c.args.line < n) c.lines.ensures c.if-line-lines.true); is = c.index.ensures }) (machine.state_of c.args.service c.args.tei) c.state.result (c.state.ensures _)
