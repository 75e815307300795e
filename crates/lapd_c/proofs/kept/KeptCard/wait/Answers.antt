-- Hand-written answers for `KeptCard::wait`.
use Rattle.lapd_c.proofs.Vocabulary.{sym, subst}
use Rattle.lapd_c.specs.Reopened.{WaitsFor}
use Rattle.lapd_c.proofs.Reopening.{same_behind}
use Rattle.lapd_c.proofs.kept.KeptCard.wait.Goals as goal

pub returns-in_default-of-clause-marked : goal.returns-in_default-of-clause-marked
returns-in_default-of-clause-marked c =
    subst (λ o. WaitsFor o c.args.line c.args.self.now.refused c.args.self.now.refused) (sym c.in-Some.is) (same_behind _ c.args.self.now.refused c.args.line c.in_default-of.ensures.behind)
