-- More bits above those that wait.
use Rattle.lapd_bits.proofs.Vocabulary.{◌+◌, ◌<◌, ◌^◌, ap, sym, subst, ◌∙◌, arith, low_bits}
use Rattle.lapd_bits.proofs.Joining.{above_bits, above_below, above_fits_word, above_is_word}
use Rattle.lapd_bits.proofs.waiting.Waiting.push.Goals as goal

pub overflow_add-bits : goal.overflow_add-bits
overflow_add-bits c =
    let s = c.args.self.now in
    omega (arith, above_fits_word s.bits s.count c.args.bits c.args.count s.below c.requires.below c.requires.room, above_is_word s.bits s.count c.args.bits c.args.count s.below c.requires.below c.requires.room)

pub invariant_of-self : goal.invariant_of-self
invariant_of-self c =
    let s = c.args.self.now in
    record {
      below =
          subst (λ n. n < 2 ^ (s.count + c.args.count)) (sym (above_is_word s.bits s.count c.args.bits c.args.count s.below c.requires.below c.requires.room))
          (above_below s.bits s.count c.args.bits c.args.count s.below c.requires.below);
      at_most = c.requires.room;
    }

pub returns-clause-bits : goal.returns-clause-bits
returns-clause-bits c =
    let s = c.args.self.now in
    ap (low_bits (s.count + c.args.count)) (above_is_word s.bits s.count c.args.bits c.args.count s.below c.requires.below c.requires.room)
    ∙ above_bits s.bits s.count c.args.bits c.args.count s.below
