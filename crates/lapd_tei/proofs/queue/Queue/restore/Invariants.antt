-- The invariant of the loop of `Queue::restore`.
use Rattle.std.proofs.Common.{◌≡◌, length}
use Rattle.std.specs.Prelude.{flat_map}
use Rattle.lapd_image.specs.Reads.{IsReadAs}
use Rattle.model_teis.specs.network.Image.{IsQueue}
use Rattle.model_teis.specs.network.Messages.{information_of}
use Rattle.lapd_tei.proofs.queue.Queue.restore.Given as goal

-- so many are read
abbrev pub invariant-loop : goal.invariant-loop
invariant-loop l = record {
  count : length l.self ≡ l.counter;
  read : IsReadAs (flat_map information_of) IsQueue l.self l.initial.reader l.reader;
}
