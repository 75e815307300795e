-- Hand-written answers for `Deframer::held`.
use Rattle.lapd_bits.proofs.Vocabulary.{subst, reverse, bits, HoldsGap, open_gap}
use Rattle.lapd_bits.proofs.BitSteps.{held_of_gap}
use Rattle.lapd_bits.proofs.deframer.Deframer.held.Goals as goal

pub returns-in-Some : goal.returns-in-Some
returns-in-Some c =
    record {
      held = λ n201 past h.
          let octets = c.args.self.now.octets.items in
          let here = subst (λ g. HoldsGap octets g (open_gap (reverse (bits past)))) c.in-Some.is h.holds.open_is in
          held_of_gap n201 c.held.result octets c.in-Some.gap past h.room here c.held.ensures.held;
    }
