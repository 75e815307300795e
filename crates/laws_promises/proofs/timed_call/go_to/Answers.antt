-- The time is that moment, or it is refused.
use Rattle.std.proofs.Common.{refl}
use Rattle.std.proofs.lemmas.Bool.{false≢true}
use Rattle.model_timed.specs.Timed.{time}
use Rattle.laws_promises.specs.TimedDrive.{of_frames, of_octets}
use Rattle.laws_promises.specs.TimedReply.{went, wrong_time}
use Rattle.laws_promises.proofs.TimedKinds.{frames-driven, octets-driven}
use Rattle.laws_promises.proofs.TimedServing.{led-by-no-time, led-by-time, serves}
use Rattle.laws_promises.proofs.timed_call.go_to.Goals as goal

pub returns-in-Ok : goal.returns-in-Ok
returns-in-Ok g c = record {
  frames = serves of_frames frames-driven (time c.args.moment) c.args.card.now c.go_to.new.self c.args.sink.now c.take.new.self c.take.result c.now.result went
      (led-by-time of_frames frames-driven c.args.moment c.args.card.now c.go_to.new.self c.now.result c.in-Ok.ensures.went.card c.in-Ok.ensures.went.after.frames c.in-Ok.ensures.went.after.frames_marked (λ wrong. false≢true (c.in-Ok.ensures.refused.1 wrong)) c.now.ensures)
      c.take.ensures.taken c.take.ensures.none_failed c.take.ensures.missed c.take.ensures.failed;
  octets = serves of_octets octets-driven (time c.args.moment) c.args.card.now c.go_to.new.self c.args.sink.now c.take.new.self c.take.result c.now.result went
      (led-by-time of_octets octets-driven c.args.moment c.args.card.now c.go_to.new.self c.now.result c.in-Ok.ensures.went.card c.in-Ok.ensures.went.after.octets c.in-Ok.ensures.went.after.octets_marked (λ wrong. false≢true (c.in-Ok.ensures.refused.1 wrong)) c.now.ensures)
      c.take.ensures.taken c.take.ensures.none_failed c.take.ensures.missed c.take.ensures.failed;
}

pub returns-in-Err : goal.returns-in-Err
returns-in-Err g c = record {
  frames = serves of_frames frames-driven (time c.args.moment) c.args.card.now c.go_to.new.self c.args.sink.now c.take-in-Err.new.self c.take-in-Err.result c.now-in-Err.result wrong_time
      (led-by-no-time of_frames frames-driven c.args.moment c.args.card.now c.go_to.new.self c.now-in-Err.result c.in-Err.ensures.unchanged (c.in-Err.ensures.refused.0 refl) c.now-in-Err.ensures)
      c.take-in-Err.ensures.taken c.take-in-Err.ensures.none_failed c.take-in-Err.ensures.missed c.take-in-Err.ensures.failed;
  octets = serves of_octets octets-driven (time c.args.moment) c.args.card.now c.go_to.new.self c.args.sink.now c.take-in-Err.new.self c.take-in-Err.result c.now-in-Err.result wrong_time
      (led-by-no-time of_octets octets-driven c.args.moment c.args.card.now c.go_to.new.self c.now-in-Err.result c.in-Err.ensures.unchanged (c.in-Err.ensures.refused.0 refl) c.now-in-Err.ensures)
      c.take-in-Err.ensures.taken c.take-in-Err.ensures.none_failed c.take-in-Err.ensures.missed c.take-in-Err.ensures.failed;
}
