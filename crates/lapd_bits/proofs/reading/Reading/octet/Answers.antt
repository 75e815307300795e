-- Hand-written answers for `Reading::octet`.
use Rattle.lapd_bits.proofs.Vocabulary.{◌≡◌, ◌+◌, ◌++◌, ◌∷◌, [], refl, ap, sym, ◌∙◌, append_assoc, arith, low_bits}
use Rattle.lapd_bits.specs.Reading.{left_to_read}
use Rattle.lapd_bits.proofs.ReadBack.{bits_left, one_bit_more}
use Rattle.lapd_bits.proofs.reading.Reading.octet.Goals as goal

pub loop-place-init : goal.loop-place-init
unfolding low_bits
loop-place-init c = record { read = refl; below = omega arith }

pub bit-requires : goal.bit-requires
bit-requires c = record {
  some = bits_left (left_to_read c.args.self.now c.args.text.now) c.loop-place.place c.loop-place.octet (left_to_read c.loop-place.self c.args.text.now)
      c.loop-place.invariant.read c.requires.some c.loop-place-test.true;
}

pub loop-place-preserved : goal.loop-place-preserved
loop-place-preserved c =
    let i = c.loop-place.invariant in
    let front = low_bits c.loop-place.place c.loop-place.octet in
    let left = left_to_read c.bit.new.self c.args.text.now in
    record {
      read = i.read ∙ ap (λ l. front ++ l) c.bit.ensures.read ∙ sym (append_assoc front (c.bit.result ∷ []) left)
          ∙ ap (λ l. l ++ left) (ap (λ l. front ++ l) (sym (one_bit_more c.bit.result) ∙ ap (low_bits 1) (sym c.from.ensures)) ∙ sym c.above-octet.ensures.bits);
      below = c.above-octet.ensures.below;
    }

pub returns : goal.returns
returns c =
    let all : c.loop-place.place ≡ 8 = omega (arith, c.loop-place-test.false, c.loop-place.auto.place-end) in
    record { read = c.loop-place.invariant.read ∙ ap (λ n. low_bits n c.loop-place.octet ++ left_to_read c.loop-place.self c.args.text.now) all }
