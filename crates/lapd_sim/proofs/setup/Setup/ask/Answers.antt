-- Hand-written answers for `Setup::ask`.
use Rattle.lapd_sim.proofs.Vocabulary.{None, refl, at, request, request_of, refused, subst, told, told_beside, told_text, on, Puts}
use Rattle.lapd_sim.proofs.Boards.{else_of, lead_on, request_of_both, says_on, timed_both, told_on}
use Rattle.model_line.specs.Event as line_event
use Rattle.lapd_sim.proofs.setup.Setup.ask.Goals as goal

pub returns-in-Ok-clause-told : goal.returns-in-Ok-clause-told
returns-in-Ok-clause-told g c = λ m h.
    let s = c.args.self.now in
    let r = request_of c.args.request in
    told_on (at c.args.line (request r)) s _ (lead_on (request_of_both r) c.args.line s.timed.card c.request.new.self.card c.request.ensures.called.leads) refl refl refl refl m (else_of s m h)
    c.tell.result _ _ (told (told_beside None c.request.new.report))
    (says_on (request_of_both r) c.args.line s.timed.card m.board h.board (line_event.told (told_beside None c.request.new.report)) refl c.in-Ok.ensures.called.answers)
    (timed_both (request_of_both r) c.args.line s.timed c.request.new.self c.request.ensures.called.after m.board h.board m.clock m.marks h.timers)
    (subst (λ tei. Puts c.tell.result (on g.T.Target.taken c.args.page.now) (on g.T.Target.taken c.tell.new.page) (told_text s.losses c.args.line tei (told_beside None c.request.new.report))) c.tei_asked-tei.ensures c.tell.ensures)

pub returns-in-Err-clause-told : goal.returns-in-Err-clause-told
returns-in-Err-clause-told g c = λ m h.
    let s = c.args.self.now in
    let r = request_of c.args.request in
    told_on (at c.args.line (request r)) s _ (lead_on (request_of_both r) c.args.line s.timed.card c.request.new.self.card c.request.ensures.called.leads) refl refl refl refl m (else_of s m h)
    c.put_refused.result _ _ (refused c.in-Err.refusal)
    (says_on (request_of_both r) c.args.line s.timed.card m.board h.board (line_event.refused c.in-Err.refusal) refl c.in-Err.ensures.called.answers)
    (timed_both (request_of_both r) c.args.line s.timed c.request.new.self c.request.ensures.called.after m.board h.board m.clock m.marks h.timers) c.put_refused.ensures
