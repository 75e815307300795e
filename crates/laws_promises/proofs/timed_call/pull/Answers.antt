-- The next octet is given.
use Rattle.std.proofs.Common.{refl}
use Rattle.lapd_card.specs.{pulled_of}
use Rattle.model_card.specs.ports.Event.{at}
use Rattle.model_card.specs.ports.Port as port
use Rattle.model_timed.specs.Timed.{happens}
use Rattle.laws_promises.specs.TimedDrive.{of_octets}
use Rattle.laws_promises.specs.TimedReply.{by_port}
use Rattle.laws_promises.proofs.TimedKinds.{octet-happened, octets-driven}
use Rattle.laws_promises.proofs.TimedServing.{led-by-event, serves}
use Rattle.laws_promises.proofs.timed_call.pull.Goals as goal

pub returns : goal.returns
returns g c =
    let e = at c.args.line port.pull in
    serves of_octets octets-driven (happens e) c.args.card.now c.pull-pulled.new.self c.args.sink.now c.take.new.self c.take.result c.now.result (by_port c.args.line (pulled_of c.pull-pulled.result))
    (led-by-event of_octets e _ c.args.card.now c.pull-pulled.new.self c.now.result (octet-happened e _ (pulled_of c.pull-pulled.result) c.args.card.now c.pull-pulled.new.self refl c.pull-pulled.ensures.called) c.pull-pulled.ensures.called.after c.pull-pulled.ensures.called.marked c.now.ensures)
    c.take.ensures.taken c.take.ensures.none_failed c.take.ensures.missed c.take.ensures.failed
