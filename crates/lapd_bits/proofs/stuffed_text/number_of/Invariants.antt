-- The bits of the number are those of the octets so far.
use Rattle.lapd_bits.proofs.Vocabulary.{◌≡◌, ◌*◌, ◌<◌, ◌^◌, take, bits, low_bits}
use Rattle.lapd_bits.proofs.stuffed_text.number_of.Given as goal

abbrev pub invariant-loop-octet : goal.invariant-loop-octet
invariant-loop-octet l =
    record {
      count : l.count ≡ 8 * l.octet-index;
      bits : low_bits (8 * l.octet-index) l.number ≡ bits (take l.octet-index l.octets);
      below : l.number < 2 ^ (8 * l.octet-index);
    }
