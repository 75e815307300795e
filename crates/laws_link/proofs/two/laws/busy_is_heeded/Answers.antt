-- Hand-written answers for `busy_is_heeded`.
use Rattle.laws_link.proofs.Vocabulary.{fresh}
use Rattle.laws_link.proofs.OfTwo.HeedingEvents.{heeds-fresh, heeds-after, heeds-all}
use Rattle.laws_link.proofs.two.laws.busy_is_heeded.Goals as goal

pub returns-clause-begins : goal.returns-clause-begins
returns-clause-begins c = heeds-fresh

pub returns-clause-each : goal.returns-clause-each
returns-clause-each c = λ t e l h. heeds-after t e l h

pub returns-clause-always : goal.returns-clause-always
returns-clause-always c = λ t es. heeds-all t es fresh heeds-fresh
