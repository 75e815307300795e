-- Hand-written answers for `AnyCard::request`.
use Rattle.lapd_card.proofs.Vocabulary.{◌<◌, sym, ap, subst, ◌∙◌}
use Rattle.model_line.specs.Request.{request_of}
use Rattle.lapd_card.specs.Kinds.{line_count, shelf_of}
use Rattle.lapd_card.specs.declared.kinds.AnyCard.TheVariants.{Octets}
use Rattle.lapd_card.proofs.Kinded.{frames_called, octets_called}
use Rattle.lapd_card.proofs.OneOctet.{request_passes, passed_called}
use Rattle.lapd_card.proofs.OnePort.{past_after}
use Rattle.lapd_card.proofs.kinds.AnyCard.request.Goals as goal

pub request-requires-clause-within : goal.request-requires-clause-within
request-requires-clause-within c = subst (λ card. c.args.line < line_count card) (c.in-Octets.is ∙ ap Octets (sym c.card.view_is)) c.requires.within

pub invariant_of-card : goal.invariant_of-card
invariant_of-card c = past_after shelf_of (passed_called (request_passes (request_of c.args.request)) shelf_of (subst (λ card. c.args.line < line_count card) (c.in-Octets.is ∙ ap Octets (sym c.card.view_is)) c.requires.within) c.request.ensures.called) c.card.invariant

pub returns-in-Octets-clause-called : goal.returns-in-Octets-clause-called
returns-in-Octets-clause-called c = octets_called (request_passes (request_of c.args.request)) (c.in-Octets.is ∙ ap Octets (sym c.card.view_is)) (subst (λ card. c.args.line < line_count card) (c.in-Octets.is ∙ ap Octets (sym c.card.view_is)) c.requires.within) c.request.ensures.called

pub returns-in-Frames-clause-called : goal.returns-in-Frames-clause-called
returns-in-Frames-clause-called c = frames_called c.in-Frames.is c.request-in-Frames.ensures.called
