-- Hand-written answers for `Due::of_octet`.
use Rattle.std.proofs.Common.{arith, ap, append-nil, append_assoc, sym, ◌++◌, ◌-◌, ◌+◌, ◌/◌, ◌%◌, ◌==◌, [], ◌∷◌, ◌∙◌}
use Rattle.model_bits.specs.Bits.{low_bits}
use Rattle.lapd_tei.proofs.DueBits.{bits-end, bits-next}
use Rattle.lapd_tei.proofs.due.Due.of_octet.Goals as goal

pub loop-preserved : goal.loop-preserved
loop-preserved c = record {
  count = omega (arith, c.push.ensures.len, c.loop.invariant.count);
  bits =
      let more = low_bits (c.args.places - (c.loop.counter + 1)) (c.loop.left / 2) in
      c.loop.invariant.bits ∙ ap (λ l. c.loop.bits.items ++ l) (bits-next c.args.places c.loop.counter c.loop.left c.loop-test.true)
      ∙ sym (append_assoc c.loop.bits.items ((c.loop.left % 2 == 1) ∷ []) more) ∙ ap (λ l. l ++ more) (sym c.push.ensures.items);
}

pub returns : goal.returns
returns c =
    sym (c.loop.invariant.bits ∙ ap (λ l. c.loop.bits.items ++ l) (bits-end c.args.places c.loop.counter c.loop.left c.loop-test.false) ∙ append-nil c.loop.bits.items)
