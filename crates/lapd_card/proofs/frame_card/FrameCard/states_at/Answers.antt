-- Hand-written answers for `FrameCard::states_at`.
use Rattle.lapd_line.specs.Running.{states_at}
use Rattle.lapd_card.proofs.OneLine.{line-there, one_says}
use Rattle.lapd_card.proofs.frame_card.FrameCard.states_at.Goals as goal

pub index-requires : goal.index-requires
index-requires g c = line-there g.S.Shelf.store _ c.args.self.now c.args.line _ c.self.invariant c.self.view_is c.requires c.self.inside.lines.ok.0

pub returns : goal.returns
returns g c = one_says g.S.Shelf.store (record { past = c.self.invariant; same = c.self.view_is; within = c.requires; is = c.index.ensures }) (λ d l. states_at c.args.place l) c.states_at.result (c.states_at.ensures _)
