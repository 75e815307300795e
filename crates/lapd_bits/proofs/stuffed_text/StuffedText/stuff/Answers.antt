-- What is left after the fours goes on after them.
use Rattle.lapd_bits.proofs.Vocabulary.{◌*◌, ◌/◌, length, take, drop, subst, sym, ap, ◌∙◌, bits, Goes, last_ones, waits, made}
use Rattle.lapd_bits.proofs.StuffedText.{Goes-then, Goes-made, bits-parts}
use Rattle.lapd_bits.proofs.stuffed_text.StuffedText.stuff.Goals as goal

pub returns-then-not-is_empty-clause-goes : goal.returns-then-not-is_empty-clause-goes
returns-then-not-is_empty-clause-goes c =
    let octets = c.args.octets.now in
    let n = length octets / 4 * 4 in
    let begun = c.args.self.now in
    let fours = c.stuff_fours.new.self in
    let pushed = c.push.new.self in
    let later = c.give_all.new.self in
    let buffer = c.stuff_fours.new.buffer in
    let start = made begun c.args.buffer.now in
    let one = made fours buffer in
    let two = made later c.give_all.new.buffer in
    let rest = bits (drop n octets) in
    let rest_is = c.number_of.ensures.bits ∙ ap bits c.rest_of-rest.ensures.rest in
    let goes = subst (λ l. Goes (waits fours.waiting) (last_ones fours.latest) l (waits pushed.waiting) (last_ones pushed.latest)) rest_is c.push.ensures.goes in
    let more = Goes-made fours pushed buffer rest c.push.ensures.end goes in
    let given = subst (λ x. Goes one (last_ones fours.latest) rest two (last_ones x)) (sym c.give_all.ensures.latest)
    (subst (λ t. Goes one (last_ones fours.latest) rest t (last_ones pushed.latest)) (sym c.give_all.ensures.made) more) in
    subst (λ l. Goes start (last_ones begun.latest) l two (last_ones later.latest)) (bits-parts octets n)
    (Goes-then start one two (last_ones begun.latest) (last_ones fours.latest) (last_ones later.latest) (bits (take n octets)) rest c.stuff_fours.ensures.goes given)
