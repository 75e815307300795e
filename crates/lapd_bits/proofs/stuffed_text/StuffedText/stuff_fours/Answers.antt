-- Four octets more have gone into the buffer.
use Rattle.lapd_bits.proofs.Vocabulary.{◌≡◌, ◌+◌, ◌*◌, ◌/◌, ◌++◌, ◌≤◌, [], length, get_or, take, drop, subst, ap, ◌∙◌, arith, bits, low_bits, Goes, last_ones, made}
use Rattle.lapd_bits.proofs.StuffedText.{Goes-then, four_at, four_bits_at}
use Rattle.lapd_bits.proofs.stuffed_text.StuffedText.stuff_fours.Goals as goal

pub loop-four-preserved : goal.loop-four-preserved
loop-four-preserved c =
    let i = c.loop-four.invariant in
    let octets = c.args.octets.now in
    let index = c.loop-four.four-index in
    let at = 4 * index in
    let begun = c.args.self.now in
    let start = made begun c.args.buffer.now in
    let text = c.loop-four.text in
    let later = c.stuff_four.new.self in
    let after = made later c.stuff_four.new.buffer in
    let four = get_or c.as_chunks.result.0.now index [] in
    let chunk : four ≡ take 4 (drop at octets) =
    ap (λ l. get_or l index []) c.as_chunks.ensures.front
    ∙ four_at (length octets / 4) index octets [] (omega (arith, c.loop-four-test.true, c.as_chunks.ensures.front_len)) in
    let within : at + 4 ≤ length octets = omega (arith, c.loop-four-test.true, c.as_chunks.ensures.front_len) in
    let fours : bits (take at octets) ++ low_bits 32 c.from_le_bytes.result ≡ bits (take (4 * (index + 1)) octets) =
    ap (λ n. bits (take at octets) ++ low_bits 32 n) c.from_le_bytes.ensures
    ∙ four_bits_at octets four at chunk within (λ k. omega (arith, c.type_inv.octets k))
    ∙ ap (λ n. bits (take n octets)) (omega arith) in
    record {
      low = c.stuff_four.ensures.low;
      goes = subst (λ l. Goes start (last_ones begun.latest) l after (last_ones later.latest)) fours
          (Goes-then start (made text c.loop-four.buffer) after (last_ones begun.latest) (last_ones text.latest) (last_ones later.latest)
          (bits (take at octets)) (low_bits 32 c.from_le_bytes.result) i.goes c.stuff_four.ensures.goes);
      pays = omega (arith, i.pays, c.stuff_four.ensures.pays);
      room = omega (arith, i.room, c.stuff_four.ensures.room);
    }
