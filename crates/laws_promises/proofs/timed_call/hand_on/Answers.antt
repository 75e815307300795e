-- The next frame is given, or none waits; and there is room for the longest frame of all.
use Rattle.std.proofs.Common.{◌<◌, sym, ap}
use Rattle.lapd_line.specs.Reports.{gave_in}
use Rattle.lapd_timed.specs.Kinds.{room_of}
use Rattle.model_card.specs.Event.{at}
use Rattle.model_line.specs.Event.{gave, next}
use Rattle.model_timed.specs.Timed.{happens}
use Rattle.laws_promises.specs.TimedDrive.{of_frames}
use Rattle.laws_promises.specs.TimedReply.{answered}
use Rattle.laws_promises.proofs.TimedKinds.{always-room, frame-happened, frames-driven}
use Rattle.laws_promises.proofs.TimedServing.{led-by-event, led-by-nothing, serves}
use Rattle.laws_promises.proofs.timed_call.hand_on.Goals as goal

pub returns-in-Ok-Some : goal.returns-in-Ok-Some
returns-in-Ok-Some g c =
    let e = at c.args.line next in
    serves of_frames frames-driven (happens e) c.args.card.now c.next_frame.new.self c.args.sink.now c.take.new.self c.take.result c.now.result (answered c.args.line (gave _))
    (led-by-event of_frames e _ c.args.card.now c.next_frame.new.self c.now.result
    (frame-happened e _ _ c.args.card.now c.next_frame.new.self (ap (gave_in c.next_frame.new.out) (sym c.in-Ok-Some.field-0-is)) c.in-Ok-Some.ensures.called) c.in-Ok-Some.ensures.called.after c.in-Ok-Some.ensures.called.marked c.now.ensures)
    c.take.ensures.taken c.take.ensures.none_failed c.take.ensures.missed c.take.ensures.failed

pub returns-in-Ok-None : goal.returns-in-Ok-None
returns-in-Ok-None g c =
    let e = at c.args.line next in
    serves of_frames frames-driven (happens e) c.args.card.now c.next_frame.new.self c.args.sink.now c.take-in-Ok-None.new.self c.take-in-Ok-None.result c.now-in-Ok-None.result (answered c.args.line (gave _))
    (led-by-event of_frames e _ c.args.card.now c.next_frame.new.self c.now-in-Ok-None.result
    (frame-happened e _ _ c.args.card.now c.next_frame.new.self (ap (gave_in c.next_frame.new.out) (sym c.in-Ok-None.field-0-is)) c.in-Ok-None.ensures.called) c.in-Ok-None.ensures.called.after c.in-Ok-None.ensures.called.marked c.now-in-Ok-None.ensures)
    c.take-in-Ok-None.ensures.taken c.take-in-Ok-None.ensures.none_failed c.take-in-Ok-None.ensures.missed c.take-in-Ok-None.ensures.failed

pub returns-in-Err : goal.returns-in-Err
returns-in-Err g c =
    let small : 264 < room_of c.args.card.now.card = c.in-Err.ensures.refused.few in
    serves of_frames frames-driven (happens (at c.args.line next)) c.args.card.now c.next_frame.new.self c.args.sink.now c.take-in-Err.new.self c.take-in-Err.result c.now-in-Err.result _
    (led-by-nothing of_frames (happens (at c.args.line next)) c.args.card.now c.next_frame.new.self c.now-in-Err.result _ c.in-Err.ensures.refused.unchanged (always-room c.args.card.now small) c.now-in-Err.ensures)
    c.take-in-Err.ensures.taken c.take-in-Err.ensures.none_failed c.take-in-Err.ensures.missed c.take-in-Err.ensures.failed
