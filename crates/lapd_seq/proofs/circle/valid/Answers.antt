-- Hand-written answers for `valid`.
use Rattle.lapd_seq.proofs.Vocabulary.{◌+◌, arith, leb-true, le-leb, distance_of, IsValid}
use Rattle.lapd_seq.proofs.Callers.{named-valid, valid_from-named}
use Rattle.lapd_seq.proofs.Remainders.{named-finds}
use Rattle.lapd_seq.proofs.circle.valid.Goals as goal

pub returns-clause-plain : goal.returns-clause-plain
returns-clause-plain c = λ a s h. (
  λ t. (a + distance_of c.args.va c.args.nr, named-valid c.args.va c.args.nr c.args.vs a s h (omega (arith, leb-true _ _ t))),
  λ k. let v : IsValid c.args.va c.args.nr c.args.vs = valid_from-named c.args.va c.args.nr c.args.vs a s k.0 h k.1 in le-leb _ _ (omega (arith, v)),
)

pub returns-clause-named : goal.returns-clause-named
returns-clause-named c = λ a s h. named-finds c.args.va c.args.nr c.args.vs a s _ h (
  λ t. omega (arith, leb-true _ _ t),
  λ v. le-leb _ _ (omega (arith, v)),
)
