-- Hand-written answers for `FrameCard::place`.
use Rattle.lapd_card.proofs.OneLine.{line-there}
use Rattle.lapd_card.proofs.OneEvent.{place_is, place_few}
use Rattle.lapd_card.proofs.frame_card.FrameCard.place.Goals as goal

pub index-requires : goal.index-requires
index-requires g c = line-there g.S.Shelf.store _ c.args.self.now c.args.line _ c.self.invariant c.self.view_is c.requires c.self.inside.lines.ok.0

pub returns-clause-is : goal.returns-clause-is
returns-clause-is g c =
    place_is g.S.Shelf.store (record { past = c.self.invariant; same = c.self.view_is; within = c.requires; is = c.index.ensures }) c.args.tei c.place.result (c.place.ensures _)

pub returns-clause-few : goal.returns-clause-few
returns-clause-few g c =
    place_few g.S.Shelf.store (record { past = c.self.invariant; same = c.self.view_is; within = c.requires; is = c.index.ensures }) c.args.tei c.place.result (c.place.ensures _)
