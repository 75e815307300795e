-- Numbers are written, one after the other.
use Rattle.std.proofs.Common.{add-one, arith}
use Rattle.std.proofs.lemmas.Grind.{get_or_default_zero}
use Rattle.lapd_image.specs.Numbers.{number}
use Rattle.lapd_image.proofs.Puts.{puts-next}
use Rattle.lapd_count.proofs.image.put_each.Goals as goal

pub loop-value-preserved : goal.loop-value-preserved
loop-value-preserved c = rw add-one (puts-next (number 8) c.args.values.now c.loop-value.value-index 0 c.loop-value-test.true c.loop-value.invariant c.put_number-place.ensures)

pub returns-clause-few : goal.returns-clause-few
returns-clause-few c = λ k d low. rw (get_or_default_zero c.args.values.now k d low) (omega (arith, c.type_inv.values k))
