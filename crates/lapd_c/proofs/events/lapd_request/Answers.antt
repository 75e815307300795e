-- Hand-written answers for `lapd_request`.
use Rattle.lapd_c.proofs.Vocabulary.{card_in, refl, sym, ap, subst, ◌∙◌, arith, request_of, read_of, answer_of_request, at, ShowsAnswer}
use Rattle.model_line.specs.Event as line_event
use Rattle.lapd_card.proofs.OneEvent.{accepted_so, refused_so}
use Rattle.lapd_card.proofs.OneOctet.{request_passes}
use Rattle.lapd_card.specs.Kinds.{answer}
use Rattle.lapd_c.proofs.Reopening.{settled_answered}
use Rattle.lapd_c.specs.Asked.{if_ok, request_asked, request_at}
use Rattle.lapd_c.specs.CalledBy.{inside}
use Rattle.lapd_c.specs.Requests.{request_in}
use Rattle.lapd_c.proofs.Calling.{is_called, none_waits, refused_at, refused_request, same_card, served_at, shown_given, wrong_at}
use Rattle.lapd_c.proofs.WrongStatuses.{NotOk, request_not_ok}
use Rattle.std.proofs.Common.{◌≡◌, Err, rules}
use Rattle.lapd_c.proofs.Served.{served_both, there}
use Rattle.lapd_c.proofs.events.lapd_request.Goals as goal

pub returns-in-Ok-request-clause-called : goal.returns-in-Ok-request-clause-called
returns-in-Ok-request-clause-called c = let asked = request_asked c.args.line c.args.request c.args.service c.args.tei c.args.contents.now in is_called asked _ _ _ _ _ (search rules) (λ m s w.
    let on = there c.in-Some.ensures.card m s in
    let r = request_of c.in-Ok.value in
    let told = ap (λ r. answer_of_request r c.request.new.report) (sym c.in-Ok-request.is) ∙ c.request.ensures.called.answers m on in
    served_at asked _ _ _ _ m (inside (at c.args.line (line_event.request r))) (ap (if_ok (request_at c.args.line)) (sym c.request_in.ensures.read ∙ ap read_of c.in-Ok.is))
    (refused_request c.args.line r (card_in m) ∙ accepted_so (card_in m) c.args.line r told)
    (served_both _ _ c.in-Some.ensures.card refl c.request.new.self c.settle.ensures.settles.timed c.settle.new.report (request_passes r) c.args.line c.request.ensures.called m on
    (shown_given _ c.settle.new.report _ (answer (at c.args.line (line_event.request r)) m) (settled_answered _ c.settle.new.report c.show.new.self _ c.settle.ensures.rest
    (subst (ShowsAnswer c.show.new.self) told (c.show.ensures (omega arith))))))) (λ not_ok. absurd (not_ok refl))

-- one that is refused
pub returns-in-Err-request-clause-called : goal.returns-in-Err-request-clause-called
returns-in-Err-request-clause-called c =
    let asked = request_asked c.args.line c.args.request c.args.service c.args.tei c.args.contents.now in
    let r = request_of c.in-Ok.value in
    let kept = c.wait.ensures.timed ∙ c.in-Err-request.ensures.called.unchanged _ refl in
    is_called asked c.args.handle.now _ _ _ _ (search rules) (λ m s w.
    refused_at asked _ _ _ _ m (request_at c.args.line r) c.in-Err-request.why (ap (if_ok (request_at c.args.line)) (sym c.request_in.ensures.read ∙ ap read_of c.in-Ok.is))
    (refused_request c.args.line r (card_in m) ∙ refused_so (card_in m) c.args.line r c.in-Err-request.why (c.in-Err-request.ensures.called.answers m (there c.in-Some.ensures.card m s))) c.refusal_status-status.ensures)
    (λ _. same_card c.args.line _ c.args.handle.now _ (search rules) (search rules) (search rules))

-- a number that no request has, or another argument that is wrong
pub returns-in-Err-clause-called : goal.returns-in-Err-clause-called
returns-in-Err-clause-called c =
    let asked = request_asked c.args.line c.args.request c.args.service c.args.tei c.args.contents.now in
    let wrong : request_in c.args.request c.args.service c.args.tei c.args.contents.now ≡ Err c.in-Err.wrong = sym c.request_in.ensures.read ∙ ap read_of c.in-Err.is in
    is_called asked c.args.handle.now _ _ _ _ (search rules)
    (λ m s w. wrong_at asked _ _ _ _ m (ap (if_ok (request_at c.args.line)) wrong) (subst (λ o. NotOk o) wrong (request_not_ok c.args.request c.args.service c.args.tei c.args.contents.now)))
    (λ _. same_card c.args.line _ c.args.handle.now _ (search rules) (search rules) (none_waits c.in-Err.wrong c.args.request c.args.service c.args.tei c.args.line c.in-Err.ensures.wrong (search rules)))
