-- Hand-written answers for `FrameCard::dropped`.
use Rattle.model_bits.specs.Stream as stream
use Rattle.model_line.specs.Event as line_event
use Rattle.lapd_card.proofs.OneLine.{few_line, line-there}
use Rattle.lapd_card.proofs.OneEvent.{past_after, event_called, event_leads, told_unrefused}
use Rattle.lapd_card.proofs.Served.{heard_takes}
use Rattle.lapd_card.proofs.frame_card.FrameCard.dropped.Goals as goal

pub index_mut-frame_line-requires : goal.index_mut-frame_line-requires
index_mut-frame_line-requires g c = line-there g.S.Shelf.store _ c.args.self.now c.args.line _ c.self.invariant c.self.view_is c.requires.within c.self.inside.lines.ok.0

pub invariant_of-self : goal.invariant_of-self
invariant_of-self g c = past_after g.S.Shelf.store c.self.view_is (event_leads g.S.Shelf.store (record { past = c.self.invariant; same = c.self.view_is; within = c.requires.within; is = c.index_mut-frame_line.ensures.value }) (line_event.hears (stream.dropped c.args.cause)) (heard_takes (stream.dropped c.args.cause)) (c.dropped.ensures.after _) (record { told = c.has_next.result; says = c.has_next.ensures; sets = c.set.ensures })) c.self.invariant

pub returns : goal.returns
returns g c = event_called g.S.Shelf.store (record { past = c.self.invariant; same = c.self.view_is; within = c.requires.within; is = c.index_mut-frame_line.ensures.value }) (line_event.hears (stream.dropped c.args.cause)) (heard_takes (stream.dropped c.args.cause)) told_unrefused (λ others l stands. c.dropped.ensures.told l) (c.dropped.ensures.after _) (record { told = c.has_next.result; says = c.has_next.ensures; sets = c.set.ensures })

pub set-requires : goal.set-requires
set-requires g c = few_line g.S.Shelf.store c.self.invariant c.self.view_is c.requires.within
