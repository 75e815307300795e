-- An octet is heard, and contents that it delivers are lent from the card.
use Rattle.std.proofs.Common.{ap, ◌∙◌}
use Rattle.lapd_card.specs.{told_if_at}
use Rattle.lapd_timed.specs.Kinds.{ports_of}
use Rattle.model_card.specs.ports.Event.{at}
use Rattle.model_card.specs.ports.Port.{octet, told}
use Rattle.model_timed.specs.Timed.{happens}
use Rattle.laws_promises.specs.TimedDrive.{of_octets}
use Rattle.laws_promises.specs.TimedReply.{by_port}
use Rattle.laws_promises.proofs.TimedKinds.{octet-happened, octets-driven}
use Rattle.laws_promises.proofs.TimedServing.{led-by-event, serves}
use Rattle.laws_promises.proofs.timed_call.hear_octet.Goals as goal

pub returns : goal.returns
returns g c =
    let e = at c.args.line (octet c.args.octet) in
    let same = c.told-report.ensures ∙ ap (λ k. told_if_at (ports_of k) c.args.line c.hear-heard.result) c.card.ensures in
    serves of_octets octets-driven (happens e) c.args.card.now c.hear-heard.new.self c.args.sink.now c.take.new.self c.take.result c.now.result (by_port c.args.line (told _))
    (led-by-event of_octets e _ c.args.card.now c.hear-heard.new.self c.now.result (octet-happened e _ _ c.args.card.now c.hear-heard.new.self (ap told same) c.hear-heard.ensures.called) c.hear-heard.ensures.called.after c.hear-heard.ensures.called.marked c.now.ensures)
    c.take.ensures.taken c.take.ensures.none_failed c.take.ensures.missed c.take.ensures.failed
