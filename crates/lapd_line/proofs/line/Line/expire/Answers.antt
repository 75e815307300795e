-- Hand-written answers for `Line::expire`.
use Rattle.lapd_line.proofs.Vocabulary.{Some, ap, ◌∙◌, refl}
use Rattle.model_card.specs.ports.Port as port
use Rattle.model_line.specs.Event as line
use Rattle.lapd_line.proofs.OctetSteps.{leads_as}
use Rattle.lapd_line.proofs.line.Line.expire.Goals as goal

pub expire-requires-clause-stands : goal.expire-requires-clause-stands
expire-requires-clause-stands g c =
    let (others, l, st) = c.requires in
    (others, l.line, st.frames)

pub returns-clause-told : goal.returns-clause-told
returns-clause-told g c = λ others l st. ap port.told c.of.ensures ∙ ap port.answer_of (c.expire.ensures.told others l.line st.frames)

pub returns-clause-after : goal.returns-clause-after
returns-clause-after g c = leads_as (port.expiry c.args.timer) (Some (line.expiry c.args.timer)) (λ others l st. refl) c.expire.ensures.after (λ others l st. st.port)
