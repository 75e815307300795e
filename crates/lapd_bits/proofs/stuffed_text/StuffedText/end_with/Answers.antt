-- What is left after the fours, the check and the flag go on after them.
use Rattle.lapd_bits.proofs.Vocabulary.{◌≡◌, ◌+◌, ◌*◌, ◌/◌, ◌%◌, ◌^◌, ◌<◌, ◌++◌, length, take, drop, subst, sym, ap, ◌∙◌, append_assoc, arith, bits, low_bits, flag, Goes, last_ones, text_after, waits, made}
use Rattle.lapd_bits.proofs.Joining.{above_bits, above_below, above_is_word}
use Rattle.lapd_bits.proofs.StuffedText.{Goes-then, Goes-made, Goes-ended, bits-parts}
use Rattle.lapd_bits.proofs.stuffed_text.StuffedText.end_with.Goals as goal

pub push-requires-clause-below : goal.push-requires-clause-below
push-requires-clause-below c =
    let number = c.number_of.result in
    let count = 8 * length c.rest_of-rest.result.now in
    let check = c.from.result in
    let below = c.number_of.ensures.below in
    let few : check < 65536 = omega (arith, c.from.ensures, c.ranges.check.fits) in
    let small : count + 16 < 64 = omega (arith, c.rest_of-rest.ensures.few) in
    subst (λ n. n < 2 ^ (count + 16)) (sym (above_is_word number count check 16 below few small)) (above_below number count check 16 below few)

pub returns-clause-made : goal.returns-clause-made
returns-clause-made c =
    let octets = c.args.octets.now in
    let n = length octets / 4 * 4 in
    let begun = c.args.self.now in
    let fours = c.stuff_fours.new.self in
    let pushed = c.push.new.self in
    let buffer = c.stuff_fours.new.buffer in
    let start = made begun c.args.buffer.now in
    let one = made fours buffer in
    let two = made pushed buffer in
    let number = c.number_of.result in
    let count = 8 * length c.rest_of-rest.result.now in
    let check = c.from.result in
    let below = c.number_of.ensures.below in
    let few : check < 65536 = omega (arith, c.from.ensures, c.ranges.check.fits) in
    let small : count + 16 < 64 = omega (arith, c.rest_of-rest.ensures.few) in
    let rest = bits (drop n octets) ++ low_bits 16 c.args.check in
    let rest_is : low_bits (count + 16) (number + check * 2 ^ count % 18446744073709551616) ≡ rest =
    ap (low_bits (count + 16)) (above_is_word number count check 16 below few small)
    ∙ above_bits number count check 16 below
    ∙ ap (λ l. l ++ low_bits 16 check) (c.number_of.ensures.bits ∙ ap bits c.rest_of-rest.ensures.rest)
    ∙ ap (λ x. bits (drop n octets) ++ low_bits 16 x) c.from.ensures in
    let goes = subst (λ l. Goes (waits fours.waiting) (last_ones fours.latest) l (waits pushed.waiting) (last_ones pushed.latest)) rest_is c.push.ensures.goes in
    let more = Goes-made fours pushed buffer rest c.push.ensures.end goes in
    let front = bits (take n octets) in
    let all : front ++ rest ≡ bits octets ++ low_bits 16 c.args.check =
    sym (append_assoc front (bits (drop n octets)) (low_bits 16 c.args.check)) ∙ ap (λ l. l ++ low_bits 16 c.args.check) (bits-parts octets n) in
    let ended = Goes-ended start two (front ++ rest) (last_ones begun.latest) pushed.latest
    (Goes-then start one two (last_ones begun.latest) (last_ones fours.latest) (last_ones pushed.latest) front rest c.stuff_fours.ensures.goes more) in
    c.give_all.ensures.made
    ∙ ap (λ l. bits (take pushed.end buffer) ++ l) c.push_flag.ensures.bits
    ∙ sym (append_assoc (bits (take pushed.end buffer)) (waits pushed.waiting) flag)
    ∙ ap (λ l. l ++ flag) (ended ∙ ap (λ l. start ++ text_after (last_ones begun.latest) l) all)
    ∙ append_assoc start (text_after (last_ones begun.latest) (bits octets ++ low_bits 16 c.args.check)) flag
