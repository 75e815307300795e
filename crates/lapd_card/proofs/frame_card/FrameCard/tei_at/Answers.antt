-- Hand-written answers for `FrameCard::tei_at`.
use Rattle.model_line.specs.Line.{tei_at}
use Rattle.lapd_card.proofs.OneLine.{line-there, one_says, one_serves}
use Rattle.lapd_card.proofs.frame_card.FrameCard.tei_at.Goals as goal

pub index-requires : goal.index-requires
index-requires g c = line-there g.S.Shelf.store _ c.args.self.now c.args.line _ c.self.invariant c.self.view_is c.requires c.self.inside.lines.ok.0

pub returns-clause-is : goal.returns-clause-is
returns-clause-is g c = one_says g.S.Shelf.store (record { past = c.self.invariant; same = c.self.view_is; within = c.requires; is = c.index.ensures }) (λ d l. tei_at c.args.place l) c.tei_at.result (c.tei_at.ensures.is _)

pub returns-clause-few : goal.returns-clause-few
returns-clause-few g c =
    let (others, l, stands) = one_serves g.S.Shelf.store (record { past = c.self.invariant; same = c.self.view_is; within = c.requires; is = c.index.ensures }) in
    c.tei_at.ensures.few _ others l stands
