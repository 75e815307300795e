-- The text goes on with the fours so far.
use Rattle.lapd_bits.proofs.Vocabulary.{◌≡◌, ◌+◌, ◌*◌, ◌<◌, ◌≤◌, take, length, bits, Goes, last_ones, made, fifths}
use Rattle.lapd_bits.proofs.stuffed_text.StuffedText.stuff_fours.Given as goal

abbrev pub invariant-loop-four : goal.invariant-loop-four
invariant-loop-four l =
    record {
      low : l.text.waiting.count < 8;
      goes : Goes (made l.fn.self l.fn.buffer) (last_ones l.fn.self.latest) (bits (take (4 * l.four-index) l.octets)) (made l.text l.buffer) (last_ones l.text.latest);
      pays : fifths l.text ≤ fifths l.fn.self + 48 * (4 * l.four-index);
      room : length l.buffer ≡ length l.fn.buffer;
    }
