-- The invariant of the loop of `Queue::save`.
use Rattle.std.specs.Prelude.{All, flat_map, take}
use Rattle.lapd_image.specs.Puts.{Puts}
use Rattle.model_teis.specs.terminal.Image.{IsOfOctets}
use Rattle.model_teis.specs.terminal.Messages.{information_of}
use Rattle.lapd_tei.proofs.terminal.queue.Queue.save.Given as goal

-- those so far are put
abbrev pub invariant-loop-message : goal.invariant-loop-message
invariant-loop-message l = record {
  puts : Puts (flat_map information_of (take l.message-index l.message-items)) l.initial.end l.initial.out l.end l.out;
  octets : All IsOfOctets (take l.message-index l.message-items);
}
