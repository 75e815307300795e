-- Hand-written answers for `hear`.
use Rattle.lapd_link.proofs.Vocabulary.{[], refl, sym, subst, received_step, Does, Received, info_of, received_of}
use Rattle.lapd_link.proofs.events.hear.Goals as goal

pub returns-in-Frame : goal.returns-in-Frame
returns-in-Frame c =
    subst (λ (r : Received). Does c.args.terms.now (info_of r) (received_step c.args.terms.now (received_of r)) c.args.entity.now c.args.report.now c.frame.new.self c.frame.new.told) (sym c.in-Frame.is)
    (c.frame.ensures.does c.in-Frame.frame.info.now refl)

pub returns-in-Undefined : goal.returns-in-Undefined
returns-in-Undefined c =
    subst (λ (r : Received). Does c.args.terms.now (info_of r) (received_step c.args.terms.now (received_of r)) c.args.entity.now c.args.report.now c.malformed.new.self c.malformed.new.told) (sym c.in-Undefined.is)
    (c.malformed.ensures.does [])

pub returns-in-WrongSize : goal.returns-in-WrongSize
returns-in-WrongSize c =
    subst (λ (r : Received). Does c.args.terms.now (info_of r) (received_step c.args.terms.now (received_of r)) c.args.entity.now c.args.report.now c.malformed-in-WrongSize.new.self c.malformed-in-WrongSize.new.told) (sym c.in-WrongSize.is)
    (c.malformed-in-WrongSize.ensures.does [])

pub returns-in-Overlong : goal.returns-in-Overlong
returns-in-Overlong c =
    subst (λ (r : Received). Does c.args.terms.now (info_of r) (received_step c.args.terms.now (received_of r)) c.args.entity.now c.args.report.now c.malformed-in-Overlong.new.self c.malformed-in-Overlong.new.told) (sym c.in-Overlong.is)
    (c.malformed-in-Overlong.ensures.does [])
