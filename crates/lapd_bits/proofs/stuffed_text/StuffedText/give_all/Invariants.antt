-- The text is the same, with as many bits, and some of those that waited lie in the buffer.
use Rattle.lapd_bits.proofs.Vocabulary.{◌≡◌, ◌+◌, ◌*◌, length, made}
use Rattle.lapd_bits.proofs.stuffed_text.StuffedText.give_all.Given as goal

abbrev pub invariant-loop-self : goal.invariant-loop-self
invariant-loop-self l =
    record {
      made : made l.self l.buffer ≡ made l.fn.self l.fn.buffer;
      latest : l.self.latest ≡ l.fn.self.latest;
      bits : 8 * l.self.end + l.self.waiting.count ≡ 8 * l.fn.self.end + l.fn.self.waiting.count;
      room : length l.buffer ≡ length l.fn.buffer;
    }

abbrev pub decreases-loop-self : goal.decreases-loop-self
decreases-loop-self l = l.self.waiting.count
