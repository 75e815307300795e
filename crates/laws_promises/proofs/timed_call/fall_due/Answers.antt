-- A timer falls due, and its expiry is told, or none does.
use Rattle.std.proofs.Common.{ap, refl}
use Rattle.lapd_card.proofs.OneOctet.{expiry_passes}
use Rattle.model_line.specs.Event.{told}
use Rattle.model_timed.specs.Timed.{falls_due}
use Rattle.laws_promises.specs.TimedDrive.{of_frames, of_octets}
use Rattle.laws_promises.specs.TimedReply.{answered, fell_due, none_due}
use Rattle.laws_promises.proofs.TimedKinds.{frames-driven, frames-happened, octets-driven, octets-happened}
use Rattle.laws_promises.proofs.TimedServing.{led-by-due, led-by-none-due, serves}
use Rattle.laws_promises.proofs.timed_call.fall_due.Goals as goal

pub returns-in-Some : goal.returns-in-Some
returns-in-Some g c =
    let line = c.in-Some.line in
    let timer = c.in-Some.timer in
    let passes = expiry_passes timer in
    let called = c.in-Some.ensures.fell.called in
    record {
      frames = serves of_frames frames-driven falls_due c.args.card.now c.fall_due.new.self c.args.sink.now c.take.new.self c.take.result c.now.result (fell_due timer (answered line (told _)))
          (led-by-due of_frames frames-driven line timer _ c.args.card.now c.fall_due.new.self c.now.result c.in-Some.ensures.due
          (frames-happened passes line _ _ c.args.card.now c.fall_due.new.self (ap told c.of.ensures) called.leads called.answers) c.in-Some.ensures.after.frames c.in-Some.ensures.after.frames_marked c.now.ensures)
          c.take.ensures.taken c.take.ensures.none_failed c.take.ensures.missed c.take.ensures.failed;
      octets = serves of_octets octets-driven falls_due c.args.card.now c.fall_due.new.self c.args.sink.now c.take.new.self c.take.result c.now.result (fell_due timer (answered line (told _)))
          (led-by-due of_octets octets-driven line timer _ c.args.card.now c.fall_due.new.self c.now.result c.in-Some.ensures.due
          (octets-happened passes line _ _ c.args.card.now c.fall_due.new.self (ap told c.of.ensures) called.leads called.answers refl) c.in-Some.ensures.after.octets c.in-Some.ensures.after.octets_marked c.now.ensures)
          c.take.ensures.taken c.take.ensures.none_failed c.take.ensures.missed c.take.ensures.failed;
    }

pub returns-in-None : goal.returns-in-None
returns-in-None g c = record {
  frames = serves of_frames frames-driven falls_due c.args.card.now c.fall_due.new.self c.args.sink.now c.take-in-None.new.self c.take-in-None.result c.now-in-None.result none_due
      (led-by-none-due of_frames frames-driven c.args.card.now c.fall_due.new.self c.now-in-None.result c.in-None.ensures.due c.in-None.ensures.none.0 c.in-None.ensures.after.frames c.in-None.ensures.after.frames_marked c.now-in-None.ensures)
      c.take-in-None.ensures.taken c.take-in-None.ensures.none_failed c.take-in-None.ensures.missed c.take-in-None.ensures.failed;
  octets = serves of_octets octets-driven falls_due c.args.card.now c.fall_due.new.self c.args.sink.now c.take-in-None.new.self c.take-in-None.result c.now-in-None.result none_due
      (led-by-none-due of_octets octets-driven c.args.card.now c.fall_due.new.self c.now-in-None.result c.in-None.ensures.due c.in-None.ensures.none.0 c.in-None.ensures.after.octets c.in-None.ensures.after.octets_marked c.now-in-None.ensures)
      c.take-in-None.ensures.taken c.take-in-None.ensures.none_failed c.take-in-None.ensures.missed c.take-in-None.ensures.failed;
}
