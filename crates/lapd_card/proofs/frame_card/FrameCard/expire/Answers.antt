-- Hand-written answers for `FrameCard::expire`.
use Rattle.lapd_card.proofs.Vocabulary.{frames_by_event}
use Rattle.model_line.specs.Event as line_event
use Rattle.lapd_card.proofs.OneLine.{few_line, line-there, one_serves}
use Rattle.lapd_card.proofs.OneEvent.{past_after, event_called, event_leads, told_unrefused}
use Rattle.lapd_card.proofs.Served.{expiry_takes}
use Rattle.lapd_card.proofs.Headline.{at_line}
use Rattle.lapd_card.proofs.frame_card.FrameCard.expire.Goals as goal

pub index_mut-frame_line-requires : goal.index_mut-frame_line-requires
index_mut-frame_line-requires g c = line-there g.S.Shelf.store _ c.args.self.now c.args.line _ c.self.invariant c.self.view_is c.requires.within c.self.inside.lines.ok.0

pub expire-requires-clause-stands : goal.expire-requires-clause-stands
expire-requires-clause-stands g c = one_serves g.S.Shelf.store (record { past = c.self.invariant; same = c.self.view_is; within = c.requires.within; is = c.index_mut-frame_line.ensures.value })

pub invariant_of-self : goal.invariant_of-self
invariant_of-self g c = past_after g.S.Shelf.store c.self.view_is (event_leads g.S.Shelf.store (record { past = c.self.invariant; same = c.self.view_is; within = c.requires.within; is = c.index_mut-frame_line.ensures.value }) (line_event.expiry c.args.timer) (expiry_takes c.args.timer) c.expire.ensures.after (record { told = c.has_next.result; says = c.has_next.ensures; sets = c.set.ensures })) c.self.invariant

pub returns-clause-called : goal.returns-clause-called
returns-clause-called g c = event_called g.S.Shelf.store (record { past = c.self.invariant; same = c.self.view_is; within = c.requires.within; is = c.index_mut-frame_line.ensures.value }) (line_event.expiry c.args.timer) (expiry_takes c.args.timer) told_unrefused c.expire.ensures.told c.expire.ensures.after (record { told = c.has_next.result; says = c.has_next.ensures; sets = c.set.ensures })

pub returns-clause-frames : goal.returns-clause-frames
returns-clause-frames g c = at_line g.S.Shelf.store c.requires.within (λ m s w. frames_by_event.expiries m c.args.line c.args.timer s w)

pub set-requires : goal.set-requires
set-requires g c = few_line g.S.Shelf.store c.self.invariant c.self.view_is c.requires.within
