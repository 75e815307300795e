-- A request is served, and its orders are carried out; or it is refused, and orders nothing.
use Rattle.std.proofs.Common.{◌≡◌, ◌∙◌, [], ap, refl, sym, subst}
use denote.Struct.Props.{props}
use Rattle.lapd_card.proofs.OneOctet.{err_is, request_passes}
use Rattle.lapd_card.specs.Kinds.{card_in, frames_of, line_count}
use Rattle.lapd_card.specs.declared.kinds.AnyCard.{AnyCard}
use Rattle.lapd_card.specs.{answer_of_request}
use Rattle.model_line.specs.Request.{request_of}
use Rattle.lapd_timed.specs.Carried.{AreNoted}
use Rattle.lapd_timed.specs.Stands.{AreOfLines}
use Rattle.lapd_timed.specs.declared.timed_card.TimedCard.{TimedCard}
use Rattle.lapd_timed.proofs.EventKeeps.{refused-keeps, request-keeps, unit-stays-on}
use Rattle.lapd_timed.proofs.Events.{carried-too, nothing-ordered}
use Rattle.lapd_timed.proofs.Steps.{both-as, both-called-noted, both-called-still}
use Rattle.lapd_timed.proofs.timed_card.TimedCard.request.Goals as goal

-- with the same card and timers it is the same
same-timed : (c : TimedCard) (k : AnyCard) (l : AreOfLines (line_count k) c.timers) → k ≡ c.card → record { card = k; timers = c.timers; same_lines = l } ≡ c
same-timed c k l same =
    let one : IsProp (AreOfLines (line_count c.card) c.timers) = hlevel props in
    (subst (λ x. (l : AreOfLines (line_count x) c.timers) → record { card = x; timers = c.timers; same_lines = l } ≡ c) (sym same)
    (λ l. ap (λ l. record { card = c.card; timers = c.timers; same_lines = l }) (one l c.same_lines))) l

pub returns-in-Some-clause-called : goal.returns-in-Some-clause-called
returns-in-Some-clause-called c =
    let r = request_of c.args.request in
    let are_noted = subst (λ k. AreNoted (frames_of k) c.args.line c.in-Some.tei c.carry_out.new.self.timers c.note.new.self.timers) c.carry_out.ensures.card c.note.ensures.noted in
    both-called-noted (request_passes r) c.args.line tt c.args.self.now c.note.new.self c.request.new.self (c.note.ensures.card ∙ c.carry_out.ensures.card) c.in_ok-request.ensures.called (λ why is. absurd (cc))
    c.requires.within c.orders.result.now (carried-too _ _ _ _ _ _ _ _ c.carry_out.ensures.carried are_noted) c.orders.ensures c.carry_out.new.self.timers c.carry_out.ensures.still c.in-Some.tei
    (request-keeps r c.in-Some.tei (sym c.in-Some.ensures)) are_noted

pub returns-in_default-clause-called : goal.returns-in_default-clause-called
returns-in_default-clause-called c =
    let r = request_of c.args.request in
    both-called-still (request_passes r) c.args.line tt c.args.self.now c.carry_out.new.self c.request.new.self c.carry_out.ensures.card c.in_ok-request.ensures.called (λ why is. absurd (cc))
    c.requires.within c.orders.result.now c.carry_out.ensures.carried c.orders.ensures c.carry_out.ensures.still (λ m on reached here. unit-stays-on (card_in m) reached c.args.line here r (sym c.in_default.ensures))

pub returns-in_err-request-clause-called : goal.returns-in_err-request-clause-called
returns-in_err-request-clause-called c =
    let same = c.in_err-request.ensures.called.unchanged _ refl in
    both-as (ap (λ r. answer_of_request r c.request.new.report) (err_is c.from_residual.result c.in_err-request.field-0.0 c.from_residual.ensures))
    (both-called-still (request_passes (request_of c.args.request)) c.args.line tt c.args.self.now _ c.request.new.self refl c.in_err-request.ensures.called (λ why is. same-timed c.args.self.now c.request.new.self _ same)
    c.requires.within [] (nothing-ordered (frames_of c.request.new.self) c.args.line c.args.self.now.timers) refl (λ m marks stood. stood)
    (λ m on reached here. refused-keeps (card_in m) reached c.args.line here (request_of c.args.request) c.in_err-request.field-0.0 (sym (c.in_err-request.ensures.called.answers m on))))
