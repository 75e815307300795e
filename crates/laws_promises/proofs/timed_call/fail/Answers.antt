-- A fault is told.
use Rattle.std.proofs.Common.{ap}
use Rattle.model_bits.specs.Stream as stream
use Rattle.model_card.specs.Event.{at}
use Rattle.model_line.specs.Came.{cause_of}
use Rattle.model_line.specs.Event.{hears, told}
use Rattle.model_timed.specs.Timed.{happens}
use Rattle.laws_promises.specs.TimedDrive.{of_frames}
use Rattle.laws_promises.specs.TimedReply.{answered}
use Rattle.laws_promises.proofs.TimedKinds.{frame-happened, frames-driven}
use Rattle.laws_promises.proofs.TimedServing.{led-by-event, serves}
use Rattle.laws_promises.proofs.timed_call.fail.Goals as goal

pub returns : goal.returns
returns g c =
    let e = at c.args.line (hears (stream.dropped (cause_of c.args.fault))) in
    serves of_frames frames-driven (happens e) c.args.card.now c.failed.new.self c.args.sink.now c.take.new.self c.take.result c.now.result (answered c.args.line (told _))
    (led-by-event of_frames e _ c.args.card.now c.failed.new.self c.now.result (frame-happened e _ _ c.args.card.now c.failed.new.self (ap told c.of.ensures) c.failed.ensures.called) c.failed.ensures.called.after c.failed.ensures.called.marked c.now.ensures)
    c.take.ensures.taken c.take.ensures.none_failed c.take.ensures.missed c.take.ensures.failed
