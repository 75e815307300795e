-- Hand-written answers for `Reading::bit`.
use Rattle.lapd_bits.proofs.Vocabulary.{◌≡◌, ◌≤◌, ◌+◌, ◌∷◌, min, true, false, length, ap, sym, ◌∙◌, subst, arith}
use Rattle.lapd_bits.specs.Reading.{bits_after, bits_from}
use Rattle.lapd_bits.proofs.ReadBack.{one_read, some_there, zero_passed, zero_read}
use Rattle.lapd_bits.proofs.reading.Reading.bit.Goals as goal

pub next-bit-requires : goal.next-bit-requires
next-bit-requires c = record { some = some_there c.args.self.now.ones (bits_from c.args.self.now c.args.text.now) c.requires.some }

pub returns-then-bit : goal.returns-then-bit
returns-then-bit c =
    let later = bits_from c.next-bit.new.self c.args.text.now in
    let n = c.args.self.now.ones in
    record {
      read = ap (bits_after n) (c.next-bit.ensures.read ∙ ap (λ b. b ∷ later) c.if-bit.true) ∙ one_read n later
          ∙ ap (λ k. true ∷ bits_after k later) (ap (λ k. min (k + 1) 5) (sym c.next-bit.ensures.ones) ∙ sym c.min-self.ensures);
    }

zero_came : (c : goal.After-self-then-self-lt-FIVE-1) → bits_from c.args.self.now c.args.text.now ≡ false ∷ bits_from c.next-bit.new.self c.args.text.now
zero_came c = c.next-bit.ensures.read ∙ ap (λ b. b ∷ bits_from c.next-bit.new.self c.args.text.now) c.if-bit.false

pub returns-then-self-lt-FIVE : goal.returns-then-self-lt-FIVE
returns-then-self-lt-FIVE c =
    let later = bits_from c.next-bit.new.self c.args.text.now in
    let n = c.args.self.now.ones in
    record { read = ap (bits_after n) (zero_came c) ∙ zero_read n later (omega (arith, c.if-self-lt-FIVE.true, c.next-bit.ensures.ones)) }

pub after_zero-requires-clause-some : goal.after_zero-requires-clause-some
after_zero-requires-clause-some c =
    let later = bits_from c.next-bit.new.self c.args.text.now in
    let n = c.args.self.now.ones in
    let came = c.next-bit.ensures.read ∙ ap (λ b. b ∷ later) c.if-bit.false in
    subst (λ bs. 1 ≤ length bs) (ap (bits_after n) came ∙ zero_passed n later (omega (arith, c.if-self-lt-FIVE.false, c.next-bit.ensures.ones))) c.requires.some

pub returns : goal.returns
returns c =
    let later = bits_from c.next-bit.new.self c.args.text.now in
    let n = c.args.self.now.ones in
    let came = c.next-bit.ensures.read ∙ ap (λ b. b ∷ later) c.if-bit.false in
    record { read = ap (bits_after n) came ∙ zero_passed n later (omega (arith, c.if-self-lt-FIVE.false, c.next-bit.ensures.ones)) ∙ c.after_zero.ensures.read }
