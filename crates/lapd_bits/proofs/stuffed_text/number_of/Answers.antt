-- An octet more stands above the others.
use Rattle.lapd_bits.proofs.Vocabulary.{◌≡◌, ◌+◌, ◌*◌, ◌%◌, ◌^◌, ◌<◌, ◌++◌, get_or, take, refl, subst, sym, ap, ◌∙◌, arith, take_more, bits, low_bits, bits-push}
use Rattle.lapd_bits.proofs.Joining.{above_bits, above_below, above_is_word}
use Rattle.lapd_bits.proofs.stuffed_text.number_of.Goals as goal

pub loop-octet-init : goal.loop-octet-init
unfolding low_bits
loop-octet-init c = record { count = refl; bits = refl; below = omega arith }

pub loop-octet-preserved : goal.loop-octet-preserved
loop-octet-preserved c =
    let i = c.loop-octet.invariant in
    let octets = c.args.octets.now in
    let index = c.loop-octet.octet-index in
    let number = c.loop-octet.number in
    let count = c.loop-octet.count in
    let octet = c.from.result in
    let below = subst (λ n. number < 2 ^ n) (sym i.count) i.below in
    let few : octet < 256 = omega (arith, c.from.ensures, c.type_inv.octets index) in
    let small : count + 8 < 64 = omega (arith, i.count, c.requires.few, c.loop-octet-test.true) in
    let is = above_is_word number count octet 8 below few small in
    let more : count + 8 ≡ 8 * (index + 1) = omega (arith, i.count) in
    record {
      count = more;
      bits =
          (λ k. low_bits (sym more k) (is k))
          ∙ above_bits number count octet 8 below
          ∙ ap (λ n. low_bits n number ++ low_bits 8 octet) i.count
          ∙ (λ k. i.bits k ++ low_bits 8 (c.from.ensures k))
          ∙ sym (bits-push (take index octets) (get_or octets index 0))
          ∙ ap bits (sym (take_more octets index 0 c.loop-octet-test.true));
      below =
          subst (λ n. number + octet * 2 ^ count % 18446744073709551616 < 2 ^ n) more
          (subst (λ n. n < 2 ^ (count + 8)) (sym is) (above_below number count octet 8 below few));
    }
