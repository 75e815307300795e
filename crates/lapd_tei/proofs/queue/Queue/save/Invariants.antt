-- The invariant of the loop of `Queue::save`.
use Rattle.std.proofs.Common.{ℕ, ◌<◌, get_or, take}
use Rattle.std.specs.Prelude.{flat_map}
use Rattle.lapd_image.specs.Puts.{Puts}
use Rattle.model_teis.specs.network.Image.{IsOfOctets}
use Rattle.model_teis.specs.declared.network.messages.Message.{Message}
use Rattle.model_teis.specs.network.Messages.{information_of}
use Rattle.lapd_tei.proofs.queue.Queue.save.Given as goal

abbrev pub invariant-loop-place : goal.invariant-loop-place
invariant-loop-place l = record {
  puts : Puts (flat_map information_of (take l.place l.self)) l.initial.end l.initial.out l.end l.out;
  saved : (k : ℕ) (d : Message) → k < l.place → IsOfOctets (get_or l.self k d);
}
