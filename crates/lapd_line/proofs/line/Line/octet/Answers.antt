-- Hand-written answers for `Line::octet`.
use Rattle.lapd_line.proofs.Vocabulary.{◌≡◌, refl, ap, ◌∙◌, octets_config, report_told, told_beside, told_in, latest_frame}
use Rattle.model_card.specs.ports.Port as port
use Rattle.lapd_line.proofs.OctetSteps.{drop_leaves}
use Rattle.lapd_line.proofs.line.Line.octet.Goals as goal

pub returns : goal.returns
returns g c =
    let is : report_told c.of.result ≡ told_in (latest_frame c.hear-bare.new.self.port) c.hear-bare.result =
    c.of.ensures ∙ ap (λ x. told_beside x c.hear-bare.result) c.contents.ensures ∙ ap (λ octets. told_in octets c.hear-bare.result) c.latest_frame.ensures in (
      (refl, (λ line. tt), c.hear-bare.ensures.after),
      record {
        told = λ others l st. ap port.told is ∙ c.hear-bare.ensures.told others l st;
        dropped = λ others l st. drop_leaves (octets_config c.args.self.now) c.args.octet l (report_told c.of.result) (ap port.told is ∙ c.hear-bare.ensures.told others l st);
        after = tt;
      },
    )
