-- Hand-written answers for `FrameCard::next_frame`.
use Rattle.lapd_card.proofs.Vocabulary.{arith, ◌+◌, ◌≤◌, length, sym, subst, frames_by_event}
use Rattle.model_line.specs.Event.{next}
use Rattle.lapd_card.proofs.OneLine.{few_line, line-there, one_serves, has_config}
use Rattle.lapd_card.proofs.OneEvent.{past_after, event_called, event_leads, gave_unrefused}
use Rattle.lapd_card.proofs.Served.{next_takes}
use Rattle.lapd_card.proofs.Headline.{at_line}
use Rattle.lapd_card.proofs.frame_card.FrameCard.next_frame.Goals as goal

pub index_mut-frame_line-requires : goal.index_mut-frame_line-requires
index_mut-frame_line-requires g c = line-there g.S.Shelf.store _ c.args.self.now c.args.line _ c.self.invariant c.self.view_is c.requires c.self.inside.lines.ok.0

pub next_frame-given-requires-clause-stands : goal.next_frame-given-requires-clause-stands
next_frame-given-requires-clause-stands g c = one_serves g.S.Shelf.store (record { past = c.self.invariant; same = c.self.view_is; within = c.requires; is = c.index_mut-frame_line.ensures.value })

-- there is room for what a line of the machine may give
pub next_frame-given-requires-clause-room : goal.next_frame-given-requires-clause-room
next_frame-given-requires-clause-room g c = subst (λ d. d.n201 + 4 ≤ length c.args.out.now) (sym (has_config g.S.Shelf.store (record { past = c.self.invariant; same = c.self.view_is; within = c.requires; is = c.index_mut-frame_line.ensures.value }))) (omega (arith, c.if-out-room.false, c.frame_room-room.ensures))

pub invariant_of-self : goal.invariant_of-self
invariant_of-self g c = past_after g.S.Shelf.store c.self.view_is (event_leads g.S.Shelf.store (record { past = c.self.invariant; same = c.self.view_is; within = c.requires; is = c.index_mut-frame_line.ensures.value }) next next_takes c.next_frame-given.ensures.after (record { told = c.has_next.result; says = c.has_next.ensures; sets = c.set.ensures })) c.self.invariant

pub returns-clause-called : goal.returns-clause-called
returns-clause-called g c = event_called g.S.Shelf.store (record { past = c.self.invariant; same = c.self.view_is; within = c.requires; is = c.index_mut-frame_line.ensures.value }) next next_takes gave_unrefused c.next_frame-given.ensures.gave c.next_frame-given.ensures.after (record { told = c.has_next.result; says = c.has_next.ensures; sets = c.set.ensures })

pub set-requires : goal.set-requires
set-requires g c = few_line g.S.Shelf.store c.self.invariant c.self.view_is c.requires

pub returns-clause-frames : goal.returns-clause-frames
returns-clause-frames g c = at_line g.S.Shelf.store c.requires (λ m s w. frames_by_event.calls m c.args.line s w)

pub returns-then-out-room-clause-frames : goal.returns-then-out-room-clause-frames
returns-then-out-room-clause-frames g c = at_line g.S.Shelf.store c.requires (λ m s w. frames_by_event.calls m c.args.line s w)
