-- Hand-written answers for `distance`.
use Rattle.lapd_seq.proofs.Vocabulary.{distance_of, refl}
use Rattle.lapd_seq.proofs.Callers.{distance-plain, distance-named}
use Rattle.lapd_seq.proofs.circle.distance.Goals as goal

pub returns-clause-circle : goal.returns-clause-circle
unfolding distance_of
returns-clause-circle c = refl

pub returns-clause-plain : goal.returns-clause-plain
unfolding distance_of
returns-clause-plain c = λ a s h. distance-plain c.args.from c.args.to a s h

pub returns-clause-named : goal.returns-clause-named
unfolding distance_of
returns-clause-named c = λ vs a s n h k. distance-named c.args.from c.args.to vs a s n h k
