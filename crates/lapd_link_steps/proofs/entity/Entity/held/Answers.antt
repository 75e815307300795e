-- Hand-written answers for `Entity::held`.
use Rattle.lapd_link_steps.proofs.Vocabulary.{arith}
use Rattle.lapd_link_steps.proofs.Sizes.{octets-of_next, octets-of_whole}
use Rattle.lapd_link_steps.proofs.entity.Entity.held.Goals as goal

pub returns : goal.returns
returns c = λ terms.
    octets-of_whole terms c.args.self.now.waiting.items c.loop-place.place c.loop-place.octets
    (omega (arith, c.loop-place-test.false, c.loop-place.auto.place-end, c.len-place-end.ensures.len))
    c.loop-place.invariant.0

pub loop-place-preserved : goal.loop-place-preserved
loop-place-preserved c = (
  rw c.loop-place.invariant.0
      (octets-of_next c.args.self.now.waiting.items c.loop-place.place c.octets_at-octets.result (omega (arith, c.loop-place-test.true, c.len-place-end.ensures.len)) c.octets_at-octets.ensures.octets),
  omega (arith, c.loop-place.invariant.1, c.octets_at-octets.ensures.bound),
)
