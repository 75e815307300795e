-- Hand-written answers for `Entity::unit_in_7_8`.
use Rattle.lapd_link_steps.proofs.Vocabulary.{length, arith, lt-ltb, le-ltb, deliver_unit, long_unit_in_7_8}
use Rattle.lapd_link_steps.proofs.Steps.{bit_yes, bit_no}
use Rattle.lapd_link_steps.proofs.entity.Entity.unit_in_7_8.Goals as goal

pub returns-then-from-octets-clause-does : goal.returns-then-from-octets-clause-does
returns-then-from-octets-clause-does c = λ info len.
    bit_yes _ (deliver_unit c.args.terms.now info) (lt-ltb c.args.terms.now.n201 (length info) (omega (arith, len, c.from.ensures, c.if-from-octets.true))) (c.long_unit_in_7_8.ensures.does info)

pub returns-clause-does : goal.returns-clause-does
returns-clause-does c = λ info len.
    bit_no _ (long_unit_in_7_8 c.args.terms.now) (le-ltb c.args.terms.now.n201 (length info) (omega (arith, len, c.from.ensures, c.if-from-octets.false))) (c.deliver_unit.ensures.does info _)
