-- Hand-written answers for `Line::request`.
use Rattle.lapd_line.proofs.Vocabulary.{Some, ap, ◌∙◌, refl, request_of}
use Rattle.model_card.specs.ports.Port as port
use Rattle.model_line.specs.Event as line
use Rattle.lapd_line.proofs.OctetSteps.{leads_as}
use Rattle.lapd_line.proofs.line.Line.request.Goals as goal

pub request-requires-clause-stands : goal.request-requires-clause-stands
request-requires-clause-stands g c =
    let (others, l, st) = c.requires.stands in
    (others, l.line, st.frames)

pub returns-clause-told : goal.returns-clause-told
returns-clause-told g c = λ others l st. ap port.told c.of.ensures ∙ ap port.answer_of (c.in_ok-request.ensures.told others l.line st.frames)

pub returns-clause-after : goal.returns-clause-after
returns-clause-after g c = leads_as (port.request (request_of c.args.request)) (Some (line.request (request_of c.args.request))) (λ others l st. refl) c.in_ok-request.ensures.after (λ others l st. st.port)
