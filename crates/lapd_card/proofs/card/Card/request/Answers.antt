-- Hand-written answers for `Card::request`.
use Rattle.lapd_card.proofs.Vocabulary.{◌≡◌, ◌<◌, Some, IfErr, sym, ap, subst, is_full, line_at, refusal, OctetCard}
use Rattle.model_line.specs.Request.{request_of}
use Rattle.model_card.specs.ports.Port.{told}
use Rattle.lapd_card.specs.Card.{line_count}
use Rattle.lapd_card.specs.Reply.{answer_of_result}
use Rattle.lapd_card.specs.Stands.{OctetCardStands}
use Rattle.lapd_card.proofs.OneEvent.{accepted_so, refused_so}
use Rattle.lapd_card.proofs.OnePort.{as_told, past_after, seen, inside}
use Rattle.lapd_card.proofs.OneOctet.{request_passes, passed_called, err_is}
use Rattle.lapd_card.proofs.card.Card.request.Goals as goal

pub invariant_of-self : goal.invariant_of-self
invariant_of-self g c = past_after g.S.Shelf.store (passed_called (request_passes (request_of c.args.request)) g.S.Shelf.store (subst (λ d. c.args.line < line_count d) (sym c.self.view_is) c.requires) c.request.ensures.called) c.self.invariant

pub returns-in_err-request-clause-refused : goal.returns-in_err-request-clause-refused
returns-in_err-request-clause-refused g c =
    subst (λ r. IfErr r (λ why. (m : OctetCard) → OctetCardStands g.S.Shelf.store c.args.self.now m → refusal m.card.config (is_full m.card) (request_of c.args.request) (line_at c.args.line m.card) ≡ Some why)) (sym (err_is c.from_residual.result c.in_err-request.field-0.0 c.from_residual.ensures))
    (inside g.S.Shelf.store c.self.view_is (λ m s. refused_so m c.args.line (request_of c.args.request) c.in_err-request.field-0.0 (c.in_err-request.ensures.called.answers m s)))

pub returns-in_err-request-clause-called : goal.returns-in_err-request-clause-called
returns-in_err-request-clause-called g c =
    as_told g.S.Shelf.store (ap answer_of_result (err_is c.from_residual.result c.in_err-request.field-0.0 c.from_residual.ensures)) (seen g.S.Shelf.store c.self.view_is (passed_called (request_passes (request_of c.args.request)) g.S.Shelf.store (subst (λ d. c.args.line < line_count d) (sym c.self.view_is) c.requires) c.in_err-request.ensures.called))

pub returns-in_err-request-clause-frames : goal.returns-in_err-request-clause-frames
returns-in_err-request-clause-frames g c = inside g.S.Shelf.store c.self.view_is c.request.ensures.frames

pub invariant_of-self-2 : goal.invariant_of-self-2
invariant_of-self-2 g c = past_after g.S.Shelf.store (passed_called (request_passes (request_of c.args.request)) g.S.Shelf.store (subst (λ d. c.args.line < line_count d) (sym c.self.view_is) c.requires) c.request.ensures.called) c.self.invariant

pub returns-clause-accepted : goal.returns-clause-accepted
returns-clause-accepted g c = inside g.S.Shelf.store c.self.view_is (λ m s. accepted_so m c.args.line (request_of c.args.request) (c.in_ok-request.ensures.called.answers m s))

pub returns-clause-called : goal.returns-clause-called
returns-clause-called g c =
    as_told g.S.Shelf.store (ap told c.of.ensures) (seen g.S.Shelf.store c.self.view_is (passed_called (request_passes (request_of c.args.request)) g.S.Shelf.store (subst (λ d. c.args.line < line_count d) (sym c.self.view_is) c.requires) c.in_ok-request.ensures.called))

pub returns-clause-frames : goal.returns-clause-frames
returns-clause-frames g c = inside g.S.Shelf.store c.self.view_is c.request.ensures.frames
