-- Hand-written answers for `give`.
use Rattle.lapd_transcript.proofs.Vocabulary.{[], ◌∷◌, length, ap, arith, subst, sym, ◌∙◌, length-append, HasPut}
use Rattle.lapd_transcript.proofs.Sending.{octet_takes, put_more}
use Rattle.lapd_transcript.proofs.terminal.give.Goals as goal

pub loop-line-smaller : goal.loop-line-smaller
loop-line-smaller c =
    omega (arith, octet_takes c.loop-line.framer.left c.octet.new.self.left c.octet.result c.octet.ensures.bits (c.busy.ensures.0 c.loop-line-test.true))

pub loop-line-preserved : goal.loop-line-preserved
loop-line-preserved c =
    let busy = c.busy.ensures.0 c.loop-line-test.true in
    record {
      moved = omega (arith, c.loop-line.invariant.moved, octet_takes c.loop-line.framer.left c.octet.new.self.left c.octet.result c.octet.ensures.bits busy, ap length c.push.ensures.items, length-append c.loop-line.line.items (c.octet.result ∷ []));
      same = c.octet.ensures.room ∙ c.loop-line.invariant.same;
      put = λ before items put. subst (λ octets. HasPut c.octet.new.self before octets items) (sym c.push.ensures.items)
          (put_more c.loop-line.framer c.octet.new.self before c.loop-line.line.items c.octet.result items c.octet.type_inv busy c.octet.ensures.stands (c.loop-line.invariant.put before items put));
    }
