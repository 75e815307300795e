-- Hand-written answers for `FrameCard::frame`.
use Rattle.lapd_card.proofs.Vocabulary.{◌≡◌, List, Some, ap, subst, Owned, config_of, told_in, frames_by_event}
use Rattle.lapd_line.specs.Reports.{octets_of}
use Rattle.lapd_line.specs.Stands as line
use Rattle.model_line.specs.Came.{came}
use Rattle.model_line.specs.Event.{told, hears}
use Rattle.model_line.specs.Line as machine
use Rattle.model_line.specs.Machine.{answer}
use Rattle.lapd_card.proofs.OneLine.{few_line, line-there, one_serves, has_config}
use Rattle.lapd_card.proofs.OneEvent.{past_after, event_called, event_leads, told_unrefused}
use Rattle.lapd_card.proofs.Served.{heard_takes}
use Rattle.lapd_card.proofs.Headline.{at_line}
use Rattle.lapd_card.proofs.frame_card.FrameCard.frame.Goals as goal

pub index_mut-frame_line-requires : goal.index_mut-frame_line-requires
index_mut-frame_line-requires g c = line-there g.S.Shelf.store _ c.args.self.now c.args.line _ c.self.invariant c.self.view_is c.requires.within c.self.inside.lines.ok.0

pub frame-is_quiet-requires-clause-stands : goal.frame-is_quiet-requires-clause-stands
frame-is_quiet-requires-clause-stands g c = one_serves g.S.Shelf.store (record { past = c.self.invariant; same = c.self.view_is; within = c.requires.within; is = c.index_mut-frame_line.ensures.value })

pub invariant_of-self : goal.invariant_of-self
invariant_of-self g c = past_after g.S.Shelf.store c.self.view_is (event_leads g.S.Shelf.store (record { past = c.self.invariant; same = c.self.view_is; within = c.requires.within; is = c.index_mut-frame_line.ensures.value }) (hears (came c.args.self.now.config.n201 c.args.octets.now)) (heard_takes (came c.args.self.now.config.n201 c.args.octets.now)) (subst (λ n. line.Leads (hears (came n c.args.octets.now)) c.index_mut-frame_line.result.now (g.S.Shelf.store c.self.inside.shelf) c.frame-is_quiet.new.self (g.S.Shelf.store c.frame-is_quiet.new.shelf)) (ap (λ d. d.n201) (has_config g.S.Shelf.store (record { past = c.self.invariant; same = c.self.view_is; within = c.requires.within; is = c.index_mut-frame_line.ensures.value }))) c.frame-is_quiet.ensures.after) (record { told = c.has_next.result; says = c.has_next.ensures; sets = c.set.ensures })) c.self.invariant

pub returns-clause-called : goal.returns-clause-called
returns-clause-called g c =
    event_called g.S.Shelf.store (record { past = c.self.invariant; same = c.self.view_is; within = c.requires.within; is = c.index_mut-frame_line.ensures.value }) (hears (came c.args.self.now.config.n201 c.args.octets.now)) (heard_takes (came c.args.self.now.config.n201 c.args.octets.now)) told_unrefused
    (subst (λ n. (others : List Owned) (l : machine.Line) → line.LineStands c.index_mut-frame_line.result.now (g.S.Shelf.store c.self.inside.shelf) others l → told (told_in (octets_of (Some (came n c.args.octets.now))) c.frame-is_quiet.new.report) ≡ answer (config_of c.index_mut-frame_line.result.now) (hears (came n c.args.octets.now)) l) (ap (λ d. d.n201) (has_config g.S.Shelf.store (record { past = c.self.invariant; same = c.self.view_is; within = c.requires.within; is = c.index_mut-frame_line.ensures.value }))) c.frame-is_quiet.ensures.told)
    (subst (λ n. line.Leads (hears (came n c.args.octets.now)) c.index_mut-frame_line.result.now (g.S.Shelf.store c.self.inside.shelf) c.frame-is_quiet.new.self (g.S.Shelf.store c.frame-is_quiet.new.shelf)) (ap (λ d. d.n201) (has_config g.S.Shelf.store (record { past = c.self.invariant; same = c.self.view_is; within = c.requires.within; is = c.index_mut-frame_line.ensures.value }))) c.frame-is_quiet.ensures.after)
    (record { told = c.has_next.result; says = c.has_next.ensures; sets = c.set.ensures })

pub set-requires : goal.set-requires
set-requires g c = few_line g.S.Shelf.store c.self.invariant c.self.view_is c.requires.within

pub returns-clause-frames : goal.returns-clause-frames
returns-clause-frames g c = at_line g.S.Shelf.store c.requires.within (λ m s w. frames_by_event.heard m c.args.line (came c.args.self.now.config.n201 c.args.octets.now) s w)
