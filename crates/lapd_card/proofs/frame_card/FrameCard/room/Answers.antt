-- Hand-written answers for `FrameCard::room`.
use Rattle.lapd_card.proofs.OneLine.{line-there}
use Rattle.lapd_card.proofs.OneEvent.{room_is, refuses_so}
use Rattle.lapd_card.proofs.frame_card.FrameCard.room.Goals as goal

pub index-requires : goal.index-requires
index-requires g c = line-there g.S.Shelf.store _ c.args.self.now c.args.line _ c.self.invariant c.self.view_is c.requires c.self.inside.lines.ok.0

pub returns-clause-told : goal.returns-clause-told
returns-clause-told g c = room_is g.S.Shelf.store (record { past = c.self.invariant; same = c.self.view_is; within = c.requires; is = c.index.ensures }) c.args.service c.args.tei c.from.result c.room.result c.from.ensures c.room.ensures

pub returns-clause-refuses : goal.returns-clause-refuses
returns-clause-refuses g c = λ m s. refuses_so c.args.line c.args.service c.args.tei m c.room.result (room_is g.S.Shelf.store (record { past = c.self.invariant; same = c.self.view_is; within = c.requires; is = c.index.ensures }) c.args.service c.args.tei c.from.result c.room.result c.from.ensures c.room.ensures m s)
