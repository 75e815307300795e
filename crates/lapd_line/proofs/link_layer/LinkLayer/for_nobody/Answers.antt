-- Hand-written answers for `LinkLayer::for_nobody`.
use Rattle.lapd_line.proofs.Vocabulary.{Some, drop, sym, ap, ◌∙◌, parts_of, dropped}
use Rattle.lapd_line.proofs.AddressSteps.{group_reported, told_is}
use Rattle.lapd_line.proofs.link_layer.LinkLayer.for_nobody.Goals as goal

pub returns-in-Some : goal.returns-in-Some
returns-in-Some c = λ octets is.
    group_reported octets c.one-report.result c.args.report.now c.start-report.result c.in-Some.service c.args.frame.info.now c.one-report.ensures c.requires
    (ap (λ n. drop n octets) c.start-report.ensures.value ∙ sym is)
    ∙ sym (told_is c.args.self.now.config (parts_of c.args.frame) (dropped c.args.cause) (Some c.in-Some.service) c.in-Some.ensures)
