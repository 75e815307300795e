-- A request is served, or refused.
use Rattle.std.proofs.Common.{ap, refl}
use Rattle.lapd_card.proofs.OneOctet.{request_passes}
use Rattle.model_card.specs.Event as frame
use Rattle.model_card.specs.ports.Event as octet
use Rattle.model_card.specs.ports.Port as port
use Rattle.model_line.specs.Event.{request, refused, told}
use Rattle.model_line.specs.Request.{request_of}
use Rattle.model_timed.specs.Timed.{happens}
use Rattle.laws_promises.specs.TimedDrive.{of_frames, of_octets}
use Rattle.laws_promises.specs.TimedReply.{answered}
use Rattle.laws_promises.proofs.TimedKinds.{frames-driven, frames-happened, octets-driven, octets-happened}
use Rattle.laws_promises.proofs.TimedServing.{led-by-event, serves}
use Rattle.laws_promises.proofs.timed_call.grant.Goals as goal

pub returns-in-Ok : goal.returns-in-Ok
returns-in-Ok g c =
    let line = c.args.line in
    let e = frame.at line (request (request_of c.args.request)) in
    let o = octet.at line (port.request (request_of c.args.request)) in
    let passes = request_passes (request_of c.args.request) in
    let called = c.in-Ok.ensures.called in
    record {
      frames = serves of_frames frames-driven (happens e) c.args.card.now c.request.new.self c.args.sink.now c.take.new.self c.take.result c.now.result (answered line (told _))
          (led-by-event of_frames e _ c.args.card.now c.request.new.self c.now.result
          (frames-happened passes line _ _ c.args.card.now c.request.new.self (ap told c.of.ensures) called.leads called.answers) called.after.frames called.after.frames_marked c.now.ensures)
          c.take.ensures.taken c.take.ensures.none_failed c.take.ensures.missed c.take.ensures.failed;
      octets = serves of_octets octets-driven (happens o) c.args.card.now c.request.new.self c.args.sink.now c.take.new.self c.take.result c.now.result (answered line (told _))
          (led-by-event of_octets o _ c.args.card.now c.request.new.self c.now.result
          (octets-happened passes line _ _ c.args.card.now c.request.new.self (ap told c.of.ensures) called.leads called.answers refl) called.after.octets called.after.octets_marked c.now.ensures)
          c.take.ensures.taken c.take.ensures.none_failed c.take.ensures.missed c.take.ensures.failed;
    }

pub returns-in-Err : goal.returns-in-Err
returns-in-Err g c =
    let line = c.args.line in
    let e = frame.at line (request (request_of c.args.request)) in
    let o = octet.at line (port.request (request_of c.args.request)) in
    let passes = request_passes (request_of c.args.request) in
    let called = c.in-Err.ensures.called in
    record {
      frames = serves of_frames frames-driven (happens e) c.args.card.now c.request.new.self c.args.sink.now c.take-in-Err.new.self c.take-in-Err.result c.now-in-Err.result (answered line (refused c.in-Err.refusal))
          (led-by-event of_frames e _ c.args.card.now c.request.new.self c.now-in-Err.result
          (frames-happened passes line _ _ c.args.card.now c.request.new.self refl called.leads called.answers) called.after.frames called.after.frames_marked c.now-in-Err.ensures)
          c.take-in-Err.ensures.taken c.take-in-Err.ensures.none_failed c.take-in-Err.ensures.missed c.take-in-Err.ensures.failed;
      octets = serves of_octets octets-driven (happens o) c.args.card.now c.request.new.self c.args.sink.now c.take-in-Err.new.self c.take-in-Err.result c.now-in-Err.result (answered line (refused c.in-Err.refusal))
          (led-by-event of_octets o _ c.args.card.now c.request.new.self c.now-in-Err.result
          (octets-happened passes line _ _ c.args.card.now c.request.new.self refl called.leads called.answers refl) called.after.octets called.after.octets_marked c.now-in-Err.ensures)
          c.take-in-Err.ensures.taken c.take-in-Err.ensures.none_failed c.take-in-Err.ensures.missed c.take-in-Err.ensures.failed;
    }
