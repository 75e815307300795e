-- Hand-written answers for `Card::octet`.
use Rattle.lapd_card.proofs.Vocabulary.{◌<◌, subst, sym, refl, ap, ◌∙◌, report_told}
use Rattle.model_card.specs.ports.Port.{told}
use Rattle.lapd_card.proofs.OneOctet.{dropped}
use Rattle.lapd_card.proofs.card.Card.octet.Goals as goal

pub returns : goal.returns
returns g c = (
  (refl, (λ card. tt), c.hear-bare.ensures.called.leads),
  record {
    told = λ m s. ap told c.report.ensures ∙ c.hear-bare.ensures.called.answers m s;
    frames = c.hear-bare.ensures.frames;
    dropped = λ m s some. dropped m c.args.line c.args.octet (report_told c.report.result) s.reached (subst (λ d. c.args.line < d.lines) (sym s.frames.config) c.requires) (ap told c.report.ensures ∙ c.hear-bare.ensures.called.answers m s) some;
    after = tt;
  },
)
