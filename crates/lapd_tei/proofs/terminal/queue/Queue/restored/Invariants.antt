-- The invariant of the loop of `Queue::restored`.
use Rattle.std.specs.Prelude.{◌≡◌, flat_map, length}
use Rattle.lapd_image.specs.Reads.{IsReadAs}
use Rattle.model_teis.specs.terminal.Messages.{information_of}
use Rattle.lapd_tei.specs.terminal.Saved.{MayWait}
use Rattle.lapd_tei.proofs.terminal.queue.Queue.restored.Given as goal

-- so many are read
abbrev pub invariant-loop : goal.invariant-loop
invariant-loop l = record {
  count : length l.queue ≡ l.counter;
  read : IsReadAs (flat_map information_of) (MayWait l.table l.procedure) l.queue l.initial.reader l.reader;
}
