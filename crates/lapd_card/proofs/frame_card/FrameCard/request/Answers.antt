-- Hand-written answers for `FrameCard::request`.
use Rattle.lapd_card.proofs.Vocabulary.{Ok, Err, refl, frames_by_event}
use Rattle.model_line.specs.Request.{request_of}
use Rattle.lapd_card.proofs.OneLine.{Found, few_line, line-there, one_serves}
use Rattle.lapd_card.proofs.OneEvent.{Requested, past_after, request_called, request_leads}
use Rattle.lapd_card.proofs.Headline.{at_line}
use Rattle.lapd_card.proofs.frame_card.FrameCard.request.Goals as goal

pub index_mut-frame_line-requires : goal.index_mut-frame_line-requires
index_mut-frame_line-requires g c = line-there g.S.Shelf.store _ c.args.self.now c.args.line _ c.self.invariant c.self.view_is c.requires.within c.self.inside.lines.ok.0

pub request-requires-clause-stands : goal.request-requires-clause-stands
request-requires-clause-stands g c = one_serves g.S.Shelf.store (record { past = c.self.invariant; same = c.self.view_is; within = c.requires.within; is = c.index_mut-frame_line.ensures.value })

pub set-requires : goal.set-requires
set-requires g c = few_line g.S.Shelf.store c.self.invariant c.self.view_is c.requires.within

pub invariant_of-self : goal.invariant_of-self
invariant_of-self g c =
    let asked : Requested g.S.Shelf.store (request_of c.args.request) _ c.args.line c.from.result c.index_mut-frame_line.result.now (Ok tt) c.request.new.report c.request.new.self c.request.new.shelf c.set.new.self =
    record { most = c.from.ensures; refused = tt; accepted = c.in-Ok.ensures.accepted; unchanged = tt; kept = tt; unmarked = tt; told = c.in-Ok.ensures.told; leads = c.in-Ok.ensures.after; looked = record { told = c.has_next.result; says = c.has_next.ensures; sets = c.set.ensures } } in
    let call : Found g.S.Shelf.store _ c.args.self.now c.args.line c.index_mut-frame_line.result.now = record { past = c.self.invariant; same = c.self.view_is; within = c.requires.within; is = c.index_mut-frame_line.ensures.value } in
    past_after g.S.Shelf.store c.self.view_is (request_leads g.S.Shelf.store call (Ok tt) asked) c.self.invariant

pub returns-in-Ok : goal.returns-in-Ok
returns-in-Ok g c =
    let asked : Requested g.S.Shelf.store (request_of c.args.request) _ c.args.line c.from.result c.index_mut-frame_line.result.now (Ok tt) c.request.new.report c.request.new.self c.request.new.shelf c.set.new.self =
    record { most = c.from.ensures; refused = tt; accepted = c.in-Ok.ensures.accepted; unchanged = tt; kept = tt; unmarked = tt; told = c.in-Ok.ensures.told; leads = c.in-Ok.ensures.after; looked = record { told = c.has_next.result; says = c.has_next.ensures; sets = c.set.ensures } } in
    let call : Found g.S.Shelf.store _ c.args.self.now c.args.line c.index_mut-frame_line.result.now = record { past = c.self.invariant; same = c.self.view_is; within = c.requires.within; is = c.index_mut-frame_line.ensures.value } in
    record {
      called = request_called g.S.Shelf.store call (Ok tt) asked;
      untold = tt;
      frames = at_line g.S.Shelf.store c.requires.within (λ m s w. frames_by_event.requests m c.args.line (request_of c.args.request) s w);
    }

pub invariant_of-self-in-Err : goal.invariant_of-self-in-Err
invariant_of-self-in-Err g c =
    let asked : Requested g.S.Shelf.store (request_of c.args.request) _ c.args.line c.from.result c.index_mut-frame_line.result.now (Err c.in-Err.why) c.request.new.report c.request.new.self c.request.new.shelf c.self.inside.waiting =
    record { most = c.from.ensures; refused = c.in-Err.ensures.refused; accepted = tt; unchanged = c.in-Err.ensures.unchanged; kept = c.in-Err.ensures.kept; unmarked = refl; told = tt; leads = tt; looked = tt } in
    let call : Found g.S.Shelf.store _ c.args.self.now c.args.line c.index_mut-frame_line.result.now = record { past = c.self.invariant; same = c.self.view_is; within = c.requires.within; is = c.index_mut-frame_line.ensures.value } in
    past_after g.S.Shelf.store c.self.view_is (request_leads g.S.Shelf.store call (Err c.in-Err.why) asked) c.self.invariant

pub returns-in-Err : goal.returns-in-Err
returns-in-Err g c =
    let asked : Requested g.S.Shelf.store (request_of c.args.request) _ c.args.line c.from.result c.index_mut-frame_line.result.now (Err c.in-Err.why) c.request.new.report c.request.new.self c.request.new.shelf c.self.inside.waiting =
    record { most = c.from.ensures; refused = c.in-Err.ensures.refused; accepted = tt; unchanged = c.in-Err.ensures.unchanged; kept = c.in-Err.ensures.kept; unmarked = refl; told = tt; leads = tt; looked = tt } in
    let call : Found g.S.Shelf.store _ c.args.self.now c.args.line c.index_mut-frame_line.result.now = record { past = c.self.invariant; same = c.self.view_is; within = c.requires.within; is = c.index_mut-frame_line.ensures.value } in
    record {
      called = request_called g.S.Shelf.store call (Err c.in-Err.why) asked;
      untold = c.in-Err.ensures.untold;
      frames = at_line g.S.Shelf.store c.requires.within (λ m s w. frames_by_event.requests m c.args.line (request_of c.args.request) s w);
    }
