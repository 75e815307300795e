-- The number of a flag's bits.
use Rattle.lapd_bits.proofs.Vocabulary.{◌≡◌, ◌++◌, refl, ap, ◌∙◌, low_bits, flag, waits}
use Rattle.lapd_bits.proofs.waiting.Waiting.push_flag.Goals as goal

bits_of_flag : low_bits 8 126 ≡ flag
unfolding low_bits
bits_of_flag = refl

pub returns-clause-bits : goal.returns-clause-bits
returns-clause-bits c =
    c.push.ensures.bits ∙ ap (λ n. waits c.args.self.now ++ low_bits 8 n) c.from.ensures ∙ ap (λ l. waits c.args.self.now ++ l) bits_of_flag
