-- The invariants of the loops of `drive_timed`.
use Rattle.std.proofs.Common.{take}
use Rattle.laws_promises.specs.TimedDrive.{frame_steps, octet_steps, of_frames, of_octets}
use Rattle.laws_promises.proofs.TimedServing.{SoFar}
use Rattle.laws_promises.proofs.timed_call.drive_timed.Given as goal

-- the events so far have been served
abbrev pub invariant-loop-at : goal.invariant-loop-at
invariant-loop-at g l = record {
  frames : SoFar of_frames g.K.TimedSink.takes g.K.TimedSink.failures l.fn.card l.card l.fn.sink l.sink (take l.at (frame_steps l.fn.card l.events));
  octets : SoFar of_octets g.K.TimedSink.takes g.K.TimedSink.failures l.fn.card l.card l.fn.sink l.sink (take l.at (octet_steps l.events));
}
