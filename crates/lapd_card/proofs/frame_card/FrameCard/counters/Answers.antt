-- Hand-written answers for `FrameCard::counters`.
use Rattle.lapd_card.proofs.Vocabulary.{◌∙◌}
use Rattle.lapd_card.proofs.OneLine.{line-there, counters_at}
use Rattle.lapd_card.proofs.frame_card.FrameCard.counters.Goals as goal

pub index-requires : goal.index-requires
index-requires g c = line-there g.S.Shelf.store _ c.args.self.now c.args.line _ c.self.invariant c.self.view_is c.requires c.self.inside.lines.ok.0

pub returns : goal.returns
returns g c = c.counters.ensures ∙ counters_at g.S.Shelf.store (record { past = c.self.invariant; same = c.self.view_is; within = c.requires; is = c.index.ensures })
