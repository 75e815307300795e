-- The entry in the tables, or none where it is marked.
use Rattle.lapd_bits.proofs.Vocabulary.{arith, ne_eqb}
use Rattle.lapd_bits.proofs.UnstuffingTables.{entry}
use Rattle.lapd_bits.proofs.unstuffer.at_once.Goals as goal

pub invariant_of-result : goal.invariant_of-result
invariant_of-result c =
    let e = entry c.args.ones c.args.octet (omega arith) (omega arith) (ne_eqb _ 0 c.if-count-eq0.false) in
    record { below = e.1; at_most = e.2; few = e.3 }

pub returns : goal.returns
returns c = (entry c.args.ones c.args.octet (omega arith) (omega arith) (ne_eqb _ 0 c.if-count-eq0.false)).0
