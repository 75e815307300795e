-- Hand-written answers for `Units::save`.
use Rattle.lapd_line.proofs.Vocabulary.{arith}
use Rattle.lapd_line.proofs.SavedSteps.{unit_put, units_put, none_put}
use Rattle.lapd_line.proofs.units.Units.save.Goals as goal

pub save_one-end-requires-clause-within : goal.save_one-end-requires-clause-within
save_one-end-requires-clause-within g c =
    let (others, units, st) = c.requires.stands in
    (c.loop-index.invariant.put others units st).within

pub loop-index-init : goal.loop-index-init
loop-index-init g c = none_put c.len.ensures c.put_octet-end.ensures

pub loop-index-preserved : goal.loop-index-preserved
loop-index-preserved g c = unit_put c.loop-index.invariant (omega (arith, c.loop-index-test.true, c.len-index-end.ensures)) c.save_one-end.ensures.puts c.save_one-end.ensures.saved

pub returns-clause-puts : goal.returns-clause-puts
returns-clause-puts g c = λ others units st. (units_put c.loop-index.invariant (omega (arith, c.loop-index-test.false, c.len-index-end.ensures)) others units st).0

pub returns-clause-saved : goal.returns-clause-saved
returns-clause-saved g c = λ others units st. (units_put c.loop-index.invariant (omega (arith, c.loop-index-test.false, c.len-index-end.ensures)) others units st).1
